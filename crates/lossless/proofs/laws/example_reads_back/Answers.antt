use Rattle.lossless.proofs.Example.{example}
use Rattle.lossless.proofs.laws.example_reads_back.Goals as goal

pub returns : goal.returns
returns c = example
