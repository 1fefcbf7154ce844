use mathlib.Core.Path.{◌∙◌}
use Rattle.places.proofs.spots.clashes_at.Goals as goal

pub returns : goal.returns
returns c v i = let z = c.spot_at.ensures v i in c.clashes.ensures ∙ rw z
