use mathlib.Core.Path.{refl}
use Rattle.codec.proofs.Maps.{is_num_map}
use Rattle.codec.proofs.Field.{is_pair}
use Rattle.format.proofs.Fields.{is_element}
use Rattle.codes.specs.Maps.{low_element}
use Rattle.codes.proofs.Laws.{found_first, found_next}
use Rattle.says.proofs.Walk.{only, says_at}
use Rattle.codes.proofs.maps.element_low.Goals as goal

pub returns-then-low_at : goal.returns-then-low_at
unfolding low_element
returns-then-low_at c v i = let t = is_pair _ _ _ _ _ v i in
    found_first _ _ _ (says_at _ _ _ _ _ _ _ _ c.low_at.ensures t.0 refl) c.if-low_at.true

pub returns-else-low_at : goal.returns-else-low_at
unfolding low_element
returns-else-low_at c v i = let t = is_pair _ _ _ _ _ v i in let l = is_element _ _ _ _ t.1 in
    found_next _ _ _ (says_at _ _ _ _ _ _ _ _ c.low_at.ensures t.0 refl) c.if-low_at.false
    (only _ _ (says_at _ _ _ _ _ _ _ _ c.components_low.ensures (is_num_map _ _ _ _ _ l.components).0 (cc)))
