use Rattle.format.specs.Spec.{Loop}
use Rattle.spec.proofs.Index.{loop_lacks, loop_is, loop_stands}
use Rattle.spec.proofs.loops.loop_parent.Goals as goal

pub returns-in_err-p : goal.returns-in_err-p
returns-in_err-p c = rw c.from_residual.ensures (rw (loop_lacks _ _ c.requires _ _ _ c.loop_field.ensures c.in_err-p.was))

pub number_at-requires : goal.number_at-requires
number_at-requires c = loop_stands _ _ c.requires _ _ _ _ (λ (v : Loop). v.parent) c.requires.parent c.loop_field.ensures _ c.in_ok-p.was

pub returns : goal.returns
returns c = c.number_at.ensures _ _ (loop_is _ _ c.requires _ _ _ _ (λ (v : Loop). v.parent) c.requires.parent c.loop_field.ensures _ c.in_ok-p.was)
