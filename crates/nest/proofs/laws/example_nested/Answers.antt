use Rattle.nest.proofs.Example.{nested}
use Rattle.nest.proofs.laws.example_nested.Goals as goal

pub returns : goal.returns
returns c = nested
