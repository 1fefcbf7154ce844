use Rattle.codec.proofs.Skip.{skip_map, skip_pair}
use Rattle.format.proofs.Fields.{is_loop_plan}
use Rattle.format.specs.Plan.{loop_plan_c}
use Rattle.format.specs.Refusal.{over_loop_plan}
use Rattle.says.proofs.Walk.{long_is, long_not}
use Rattle.says.proofs.Pass.{clears_at, clears_after, is_found, any_here}
use Rattle.limits.proofs.loop_plan_over.Goals as goal

pub returns-then-count_at-gt32 : goal.returns-then-count_at-gt32
unfolding over_loop_plan
returns-then-count_at-gt32 c v i = is_found _ _ (any_here _ _ (long_is _ _ _ _ _ _ _ 32 c.count_at.ensures.0 (is_loop_plan _ _ _ v i).segments (cc) c.if-count_at-gt32.true))

pub returns : goal.returns
unfolding over_loop_plan loop_plan_c
returns c v i =
    let l = is_loop_plan _ _ _ v i in
    clears_after _ _ _ _ _ (long_not _ _ _ _ _ _ _ 32 c.count_at.ensures.0 l.segments (cc) c.if-count_at-gt32.false) (clears_at _ _ _ _ _ _ _ _ c.segment_plans_over.ensures l.segments (cc)) (simp (skip_map, skip_pair) (cc))
