use Rattle.format.specs.Plan.{segment_plan_c}
use Rattle.codec.proofs.Skip.{skip_map, skip_pair}
use Rattle.format.proofs.plan.SegmentPlanForm.ends_at.Goals as goal

pub returns : goal.returns
unfolding segment_plan_c
returns c = simp (skip_map, skip_pair) (cc)
