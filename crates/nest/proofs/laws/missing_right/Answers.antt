use Rattle.nest.proofs.Missing.{missing_right}
use Rattle.nest.proofs.laws.missing_right.Goals as goal

pub returns : goal.returns
returns c = missing_right
