use mathlib.Core.Path.{refl}
use borrow.Author.Tests.{eq-eqb}
use Rattle.codec.proofs.Field.{is_pair}
use Rattle.format.proofs.Fields.{is_element}
use Rattle.says.proofs.Walk.{number_is}
use Rattle.places.proofs.Turning.{count_empty, gives_opener, gives_field}
use Rattle.places.proofs.triggers.element_gives.Goals as goal

pub returns-then-n-t : goal.returns-then-n-t
returns-then-n-t c v i = let t = is_pair _ _ _ _ _ v i in let l = is_element _ _ _ _ t.1 in
    gives_field _ v _ _ _ (number_is _ _ _ _ _ _ c.count_at-n.ensures.0 refl t.0) c.if-n-t.true
    (count_empty _ _ _ _ _ _ _ c.count_at-m.ensures.0 (cc) l.codes) c.position_gives.ensures

pub returns-else-n-t : goal.returns-else-n-t
returns-else-n-t c v i = let t = is_pair _ _ _ _ _ v i in
    rw (eq-eqb _ _ c.if-n-t.false) (gives_opener _ v _ (number_is _ _ _ _ _ _ c.count_at-n.ensures.0 refl t.0) c.if-n-t.false)
