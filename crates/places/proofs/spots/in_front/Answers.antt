use mathlib.Core.Path.{◌∙◌}
use Rattle.places.proofs.Ranking.{front_is}
use Rattle.places.proofs.spots.in_front.Goals as goal

pub returns : goal.returns
returns c = c.lt.ensures ∙ front_is _ _
