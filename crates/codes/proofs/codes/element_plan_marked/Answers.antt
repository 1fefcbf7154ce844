use Rattle.format.proofs.Fields.{is_element_plan}
use Rattle.codes.specs.Codes.{marked_element_plan}
use Rattle.says.proofs.Walk.{says_at}
use Rattle.codes.proofs.codes.element_plan_marked.Goals as goal

pub returns : goal.returns
unfolding marked_element_plan
returns c v i = let l = is_element_plan _ _ _ v i in says_at _ _ _ _ _ _ _ _ c.value_marked.ensures l.value (cc)
