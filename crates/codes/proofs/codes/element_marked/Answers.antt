use Rattle.codec.proofs.Maps.{is_num_map}
use Rattle.codec.proofs.Field.{is_pair}
use Rattle.format.proofs.Fields.{is_element}
use Rattle.codes.specs.Codes.{marked_element}
use Rattle.codes.proofs.Laws.{found_first, found_next}
use Rattle.says.proofs.Walk.{only, says_at}
use Rattle.codes.proofs.codes.element_marked.Goals as goal

pub returns-then-texts_marked : goal.returns-then-texts_marked
unfolding marked_element
returns-then-texts_marked c v i = let t = is_pair _ _ _ _ _ v i in let l = is_element _ _ _ _ t.1 in
    found_first _ _ _ (says_at _ _ _ _ _ _ _ _ c.texts_marked.ensures l.codes (cc)) c.if-texts_marked.true

pub returns-else-texts_marked : goal.returns-else-texts_marked
unfolding marked_element
returns-else-texts_marked c v i = let t = is_pair _ _ _ _ _ v i in let l = is_element _ _ _ _ t.1 in
    found_next _ _ _ (says_at _ _ _ _ _ _ _ _ c.texts_marked.ensures l.codes (cc)) c.if-texts_marked.false
    (only _ _ (says_at _ _ _ _ _ _ _ _ c.components_marked.ensures (is_num_map _ _ _ _ _ l.components).0 (cc)))
