use Rattle.codes.proofs.Whole.{maps_decided}
use Rattle.codes.proofs.maps_fit.Goals as goal

pub returns : goal.returns
returns c = maps_decided _ c.requires _ _ _ c.spec_of-s.ensures.1 (cc) (rw c.spec_of-s.ensures.0 at c.segments_low.ensures)
