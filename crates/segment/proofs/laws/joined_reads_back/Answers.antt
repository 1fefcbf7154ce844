use Rattle.segment.proofs.FromParts.{joined_reads, joined_read_as}
use Rattle.segment.proofs.laws.joined_reads_back.Goals as goal

pub returns : goal.returns
returns c = record { has_reading = λ s a ds f. (_, joined_reads s a ds f); as_due = joined_read_as }
