use Rattle.row_segment.proofs.OrderLaws.{Ordering}
use Rattle.row_segment.proofs.order.in_order.Given as goal

abbrev pub invariant-loop-k : goal.invariant-loop-k
invariant-loop-k l = Ordering l.job.at.bytes.now l.fn.x l._k l.p l.at l.from
