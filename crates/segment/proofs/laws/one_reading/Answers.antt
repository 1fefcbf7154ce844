use Rattle.segment.proofs.OneReading.{reads_exactly, reads_none, one_reading, written_reads}
use Rattle.segment.proofs.laws.one_reading.Goals as goal

pub returns : goal.returns
returns c = record { found = reads_exactly; none_found = reads_none; only = λ s d doc xs ys r q. one_reading d r q; written = written_reads }
