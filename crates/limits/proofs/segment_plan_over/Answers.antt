use Rattle.codec.proofs.Skip.{skip_map, skip_pair}
use Rattle.format.proofs.Fields.{is_segment_plan}
use Rattle.format.specs.Plan.{segment_plan_c}
use Rattle.format.specs.Refusal.{over_segment_plan}
use Rattle.says.proofs.Pass.{clears_at, clears_as}
use Rattle.limits.proofs.segment_plan_over.Goals as goal

pub returns : goal.returns
unfolding over_segment_plan segment_plan_c
returns c v i = clears_as _ _ _ _ (clears_at _ _ _ _ _ _ _ _ c.element_plans_over.ensures (is_segment_plan _ _ _ v i).elements (cc)) (simp (skip_map, skip_pair) (cc))
