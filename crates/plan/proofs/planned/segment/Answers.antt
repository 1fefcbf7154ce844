use mathlib.Core.Path.{refl}
use Rattle.codec.proofs.Field.{stands_at}
use Rattle.format.specs.Plan.{segment_plan_c}
use Rattle.plan.proofs.Asking.{unplanned_is, planned_is, planned_read}
use Rattle.plan.proofs.planned.segment.Goals as goal

pub returns-then-n-i : goal.returns-then-n-i
returns-then-n-i c = unplanned_is _ _ c.requires.0 _ _ _ c.planned_count-n.ensures _ c.unplanned.ensures c.if-n-i.true

pub segment_at-requires : goal.segment_at-requires
segment_at-requires c = stands_at segment_plan_c _ _ _ _ _ refl c.requires.0.plan_end (planned_is _ _ c.requires.0 _ _ _ c.planned_count-n.ensures _ c.if-n-i.false c.requires.1 c.place-p.ensures.0)

pub returns : goal.returns
returns c = planned_read _ _ c.requires.0 _ _ _ c.planned_count-n.ensures _ c.if-n-i.false (c.segment_at.ensures _ _ c.requires.0.plan_end (planned_is _ _ c.requires.0 _ _ _ c.planned_count-n.ensures _ c.if-n-i.false c.requires.1 c.place-p.ensures.0))
