use Rattle.emit.proofs.EdgeValues.{edge_values}
use Rattle.emit.proofs.laws.edge_values.Goals as goal

pub returns : goal.returns
returns c = edge_values
