use Rattle.format.proofs.Fields.{is_segment_plan}
use Rattle.codes.specs.Codes.{marked_segment_plan}
use Rattle.says.proofs.Walk.{says_at}
use Rattle.codes.proofs.codes.segment_plan_marked.Goals as goal

pub returns : goal.returns
unfolding marked_segment_plan
returns c v i = let l = is_segment_plan _ _ _ v i in says_at _ _ _ _ _ _ _ _ c.element_plans_marked.ensures l.elements (cc)
