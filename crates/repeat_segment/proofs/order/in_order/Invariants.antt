use Rattle.repeat_segment.proofs.OrderLaws.{OrderedSoFar}
use Rattle.repeat_segment.proofs.order.in_order.Given as goal

abbrev pub invariant-loop-k : goal.invariant-loop-k
invariant-loop-k l = OrderedSoFar l.job l.s l.count l.last l.k
