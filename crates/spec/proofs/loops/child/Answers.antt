use Rattle.format.specs.Spec.{Loop}
use Rattle.spec.proofs.Index.{loop_lacks, loop_is, loop_stands}
use Rattle.spec.proofs.loops.child.Goals as goal

pub returns-in_default : goal.returns-in_default
returns-in_default c = rw (loop_lacks _ _ c.requires _ _ _ c.loop_field.ensures c.in_default.is)

pub item_at-requires : goal.item_at-requires
item_at-requires c = loop_stands _ _ c.requires _ _ _ _ (λ (v : Loop). v.children) c.requires.children c.loop_field.ensures _ c.in-Some.is

pub returns : goal.returns
returns c = c.item_at.ensures _ _ (loop_is _ _ c.requires _ _ _ _ (λ (v : Loop). v.children) c.requires.children c.loop_field.ensures _ c.in-Some.is)
