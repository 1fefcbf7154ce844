use Rattle.places.specs.Spots.{mixed}
use Rattle.places.proofs.Ranking.{rank_mixed}
use Rattle.places.proofs.spots.is_mixed.Goals as goal

pub returns : goal.returns
unfolding mixed
returns c = rw (c.is_some.ensures, c.is_some-2.ensures) (rank_mixed _ _)
