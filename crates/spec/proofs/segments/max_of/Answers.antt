use Rattle.spec.proofs.Found.{element_found, max_nowhere, max_there, place_nowhere, place_at}
use Rattle.spec.proofs.segments.max_of.Goals as goal

pub returns-in_err-at : goal.returns-in_err-at
returns-in_err-at c = rw c.from_residual.ensures (max_nowhere _ _ _ _ (place_nowhere _ _ _ _ _ c.element_of.ensures c.in_err-at.was))

pub max_in-requires : goal.max_in-requires
max_in-requires c = rw c.spec_of-s.ensures.0 (element_found _ _ _ _ _ c.spec_of-s.ensures.1 (place_at _ _ _ _ _ c.element_of.ensures _ c.in_ok-at.was))

pub returns : goal.returns
returns c = max_there _ _ _ _ _ _ _ _ _ c.spec_of-s.ensures.1 (place_at _ _ _ _ _ c.element_of.ensures _ c.in_ok-at.was) (rw c.spec_of-s.ensures.0 at c.max_in.ensures)
