use Rattle.format.specs.Spec.{Loop}
use Rattle.spec.proofs.Index.{loop_lacks, loop_is, loop_stands}
use mathlib.Core.Path.{refl}
use Rattle.spec.proofs.ReadsLaws.{nothing_held}
use Rattle.spec.proofs.loops.trigger.Goals as goal

pub returns-in_default : goal.returns-in_default
returns-in_default c = rw (loop_lacks _ _ c.requires _ _ _ c.loop_field.ensures c.in_default.is) (nothing_held _ _ refl refl)

pub stretch_at-requires : goal.stretch_at-requires
stretch_at-requires c = loop_stands _ _ c.requires _ _ _ _ (λ (v : Loop). v.trigger) c.requires.trigger c.loop_field.ensures _ c.in-Some.is

pub returns : goal.returns
returns c = c.stretch_at.ensures _ _ c.requires.within (loop_is _ _ c.requires _ _ _ _ (λ (v : Loop). v.trigger) c.requires.trigger c.loop_field.ensures _ c.in-Some.is)
