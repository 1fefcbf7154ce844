use Rattle.walk.proofs.Counts.{closed_counts, open_ended}
use Rattle.walk.proofs.laws.closer_counts.Goals as goal

pub returns : goal.returns
returns c = record { closed = closed_counts; open_ended = open_ended }
