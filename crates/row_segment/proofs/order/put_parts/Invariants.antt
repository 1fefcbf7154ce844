use Rattle.row_segment.proofs.OrderLaws.{Feeding}
use Rattle.row_segment.proofs.order.put_parts.Given as goal

abbrev pub invariant-loop-k : goal.invariant-loop-k
invariant-loop-k l = Feeding l.s l.job.at.bytes.now l.x (record { at = l.initial.at; elements = l.initial.elements; components = l.initial.components }) l.initial.f l.initial.doc l.initial.findings l._k l.p (record { at = l.at; elements = l.elements; components = l.components }) l.f l.n l.doc l.findings
