use Rattle.format.specs.Spec.{Loop}
use Rattle.spec.proofs.Index.{loop_lacks, loop_is, loop_stands}
use mathlib.Core.Path.{refl}
use native.Mathlib.Omega.{arith}
use Rattle.spec.proofs.loops.loop_end.Goals as goal

pub returns-in_err-p : goal.returns-in_err-p
returns-in_err-p c = rw c.from_residual.ensures (rw (loop_lacks _ _ c.requires _ _ _ c.loop_field.ensures c.in_err-p.was) (record { bytes = refl; within = omega arith }))

pub text_at-requires : goal.text_at-requires
text_at-requires c = loop_stands _ _ c.requires _ _ _ _ (λ (v : Loop). v.end) c.requires.end c.loop_field.ensures _ c.in_ok-p.was

pub returns : goal.returns
returns c = c.text_at.ensures _ _ c.requires.within (loop_is _ _ c.requires _ _ _ _ (λ (v : Loop). v.end) c.requires.end c.loop_field.ensures _ c.in_ok-p.was)
