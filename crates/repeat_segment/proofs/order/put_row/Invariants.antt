use Rattle.repeat_segment.proofs.OrderLaws.{FedSoFar}
use Rattle.repeat_segment.proofs.order.put_row.Given as goal

abbrev pub invariant-loop-i : goal.invariant-loop-i
invariant-loop-i l = FedSoFar l.job.at.bytes.now l.s l.k l.r.0 l.sep l.initial.t l.initial.doc l.t l.doc l.at l._i
