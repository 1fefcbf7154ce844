use mathlib.Core.Path.{refl}
use Rattle.format.proofs.Fields.{is_element_plan}
use Rattle.says.proofs.Walk.{number_is, says_at}
use Rattle.places.proofs.Reading.{spot_is}
use Rattle.places.proofs.spots.spot_at.Goals as goal

pub returns : goal.returns
returns c v i = let l = is_element_plan _ _ _ v i in
    spot_is _ v _ _ _ (number_is _ _ _ _ _ _ c.count_at.ensures.0 refl l.element)
    (says_at _ _ _ _ _ _ _ _ c.component_at.ensures l.component (cc))
    (says_at _ _ _ _ _ _ _ _ c.reach_at.ensures l.value (cc))
