use mathlib.Core.Path.{refl}
use Rattle.codec.proofs.Field.{stands_at}
use Rattle.format.specs.Plan.{SegmentPlan, source_c}
use Rattle.plan.proofs.Asking.{planned_lacks, source_is}
use mathlib.Core.Path.{ap}
use Rattle.plan.proofs.planned.source.Goals as goal

pub returns-then-n-i : goal.returns-then-n-i
returns-then-n-i c = ap (λ (s : SegmentPlan). s.source) (planned_lacks _ _ c.requires.0 _ _ _ c.planned_count-n.ensures c.if-n-i.true)

pub source_at-requires : goal.source_at-requires
source_at-requires c = stands_at source_c _ _ _ _ _ refl c.requires.0.plan_end (source_is _ _ c.requires.0 _ _ _ c.planned_count-n.ensures _ c.if-n-i.false c.requires.1 c.place-p.ensures.0)

pub returns : goal.returns
returns c = c.source_at.ensures _ _ (source_is _ _ c.requires.0 _ _ _ c.planned_count-n.ensures _ c.if-n-i.false c.requires.1 c.place-p.ensures.0)
