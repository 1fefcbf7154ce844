use Rattle.segment.proofs.Examples.{examples}
use Rattle.segment.proofs.laws.documents_read.Goals as goal

pub returns : goal.returns
returns c = examples
