use lib.ListN.{length}
use Rattle.repeat_segment.proofs.OrderLaws.{RowsSoFar}
use Rattle.repeat_segment.proofs.order.put_rows.Given as goal

abbrev pub invariant-loop-k : goal.invariant-loop-k
invariant-loop-k l = RowsSoFar l.chunk.job.at.bytes.now l.chunk.segment l.chunk.rows.now (length l.chunk.rows.now) l.sep l.initial.t l.initial.doc l.t l.doc l.k
