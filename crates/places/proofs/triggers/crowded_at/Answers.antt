use mathlib.Core.Path.{refl, sym}
use borrow.Author.Tests.{eq-eqb, ne_eqb}
use Rattle.codec.proofs.Maps.{is_num_map}
use Rattle.codec.proofs.Field.{is_pair}
use Rattle.format.proofs.Fields.{is_element}
use Rattle.says.proofs.Walk.{number_is}
use Rattle.places.proofs.Turning.{count_empty, crowded_is}
use Rattle.places.proofs.triggers.crowded_at.Goals as goal

pub returns-then-m-ne0 : goal.returns-then-m-ne0
returns-then-m-ne0 c es o v i = let t = is_pair _ _ _ _ _ v i in let l = is_element _ _ _ _ t.1 in
    crowded_is es v _ _ _ _ (number_is _ _ _ _ _ _ c.count_at-n.ensures.0 refl t.0)
    (count_empty _ _ _ _ _ _ _ c.count_at-m.ensures.0 (cc) (is_num_map _ _ _ _ _ l.components).0) refl (sym (rw (ne_eqb _ _ c.if-m-ne0.true)))

pub returns-else-m-ne0 : goal.returns-else-m-ne0
returns-else-m-ne0 c es o v i = let t = is_pair _ _ _ _ _ v i in let l = is_element _ _ _ _ t.1 in
    crowded_is es v _ _ _ _ (number_is _ _ _ _ _ _ c.count_at-n.ensures.0 refl t.0)
    (count_empty _ _ _ _ _ _ _ c.count_at-m.ensures.0 (cc) (is_num_map _ _ _ _ _ l.components).0)
    (c.parts_at.ensures es o) (sym (rw (eq-eqb _ _ c.if-m-ne0.false)))
