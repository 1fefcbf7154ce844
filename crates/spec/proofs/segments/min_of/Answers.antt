use Rattle.spec.proofs.Found.{element_sized, element_found, min_nowhere, min_there, place_nowhere, place_at}
use Rattle.spec.proofs.segments.min_of.Goals as goal

pub returns-in_err-at : goal.returns-in_err-at
returns-in_err-at c = rw c.from_residual.ensures (min_nowhere _ _ _ (place_nowhere _ _ _ _ _ c.element_of.ensures c.in_err-at.was))

pub element_min-requires : goal.element_min-requires
element_min-requires c = rw c.spec_of-s.ensures.0 (element_sized _ _ _ (element_found _ _ _ _ _ c.spec_of-s.ensures.1 (place_at _ _ _ _ _ c.element_of.ensures _ c.in_ok-at.was)))

pub returns : goal.returns
returns c = min_there _ _ _ _ _ _ _ _ c.spec_of-s.ensures.1 (place_at _ _ _ _ _ c.element_of.ensures _ c.in_ok-at.was) (rw c.spec_of-s.ensures.0 at c.element_min.ensures)
