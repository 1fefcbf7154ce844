use Rattle.column.proofs.Samples.{samples}
use Rattle.column.proofs.laws.samples.Goals as goal

pub returns : goal.returns
returns c = samples
