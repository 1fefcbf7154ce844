use Rattle.codec.proofs.Field.{is_pair}
use Rattle.format.proofs.Fields.{is_component}
use Rattle.codes.specs.Codes.{marked_component}
use Rattle.says.proofs.Walk.{says_at}
use Rattle.codes.proofs.codes.component_marked.Goals as goal

pub returns : goal.returns
unfolding marked_component
returns c v i = let t = is_pair _ _ _ _ _ v i in let l = is_component _ _ _ _ t.1 in says_at _ _ _ _ _ _ _ _ c.texts_marked.ensures l.codes (cc)
