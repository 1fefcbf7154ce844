use Rattle.walk.proofs.Example.{walked}
use Rattle.walk.proofs.laws.example_walked.Goals as goal

pub returns : goal.returns
returns c = walked
