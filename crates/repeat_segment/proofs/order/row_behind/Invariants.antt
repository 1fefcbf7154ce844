use Rattle.repeat_segment.proofs.OrderLaws.{RisesSoFar}
use Rattle.repeat_segment.proofs.order.row_behind.Given as goal

abbrev pub invariant-loop-i : goal.invariant-loop-i
invariant-loop-i l = RisesSoFar l.job l.s l.k l.from l.last l.at l._i
