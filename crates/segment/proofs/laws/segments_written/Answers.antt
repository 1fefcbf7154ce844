use Rattle.segment.proofs.Edges.{edges}
use Rattle.segment.proofs.laws.segments_written.Goals as goal

pub returns : goal.returns
returns c = edges
