use lib.ListN.{length}
use Rattle.repeat_segment.proofs.HighLaws.{HighSoFar}
use Rattle.repeat_segment.proofs.last.highest_in.Given as goal

abbrev pub invariant-loop-i : goal.invariant-loop-i
invariant-loop-i l = HighSoFar l.chunk.job.at.bytes.now l.chunk.segment l.chunk.rows.now (length l.chunk.rows.now) l.q l.at l._i l.best
