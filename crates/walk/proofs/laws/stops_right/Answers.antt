use Rattle.walk.proofs.Theorem.{stops_right}
use Rattle.walk.proofs.laws.stops_right.Goals as goal

pub returns : goal.returns
returns c = stops_right
