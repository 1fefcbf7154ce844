use Rattle.spec.specs.Found.{PlaceOf}
use Rattle.spec.proofs.Found.{element_nowhere, element_there, stands_low, place_nowhere, place_at}
use native.Mathlib.Omega.{arith}
use Rattle.spec.proofs.segments.element_of.Goals as goal

pub map_place-requires : goal.map_place-requires
map_place-requires c = let s = place_at _ _ _ _ _ c.elements_of.ensures _ c.in_ok-at.was in omega (arith, stands_low _ _ _ _ _ s, c.requires.0.within, c.requires.0.short)

pub returns-in_err-at : goal.returns-in_err-at
unfolding PlaceOf
returns-in_err-at c = rw c.from_residual.ensures (element_nowhere _ _ _ (place_nowhere _ _ _ _ _ c.elements_of.ensures c.in_err-at.was))

pub returns : goal.returns
returns c = element_there _ _ _ _ _ _ _ _ c.spec_of-s.ensures.1 (place_at _ _ _ _ _ c.elements_of.ensures _ c.in_ok-at.was) (rw c.spec_of-s.ensures.0 at c.map_place.ensures)
