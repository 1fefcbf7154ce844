use Rattle.row_segment.specs.Stream.{left}
use Rattle.row_segment.specs.Notes.{Between}
use Rattle.row_segment.proofs.RowLaws.{Rowing}
use Rattle.row_segment.proofs.join.put_groups.Given as goal

abbrev pub invariant-loop-a : goal.invariant-loop-a
invariant-loop-a l = Rowing l.s l.job.at.bytes.now l.x l.initial.a l.initial.q l.initial.doc l.a l.q l.done l.doc × Between l.job.at.bytes.now l.x l.initial.a l.a l.initial.u l.u l.initial.findings l.findings

abbrev pub decreases-loop-a : goal.decreases-loop-a
decreases-loop-a l = left l.x.count l.a
