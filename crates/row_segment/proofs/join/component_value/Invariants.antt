use Rattle.row_segment.specs.Stream.{left}
use Rattle.row_segment.proofs.GroupLaws.{Finding}
use Rattle.row_segment.proofs.join.component_value.Given as goal

abbrev pub invariant-loop-a : goal.invariant-loop-a
invariant-loop-a l = Finding l.job.at.bytes.now l.x l.initial.a l.e l.c l.a

abbrev pub decreases-loop-a : goal.decreases-loop-a
decreases-loop-a l = left l.x.count l.a
