use Rattle.format.proofs.Fields.{is_loop_plan}
use Rattle.codes.specs.Codes.{marked_loop_plan}
use Rattle.says.proofs.Walk.{says_at}
use Rattle.codes.proofs.codes.loop_plan_marked.Goals as goal

pub returns : goal.returns
unfolding marked_loop_plan
returns c v i = let l = is_loop_plan _ _ _ v i in says_at _ _ _ _ _ _ _ _ c.segment_plans_marked.ensures l.segments (cc)
