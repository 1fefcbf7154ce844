use Rattle.row_segment.specs.Stream.{left}
use Rattle.row_segment.specs.Notes.{Between}
use Rattle.row_segment.proofs.GroupLaws.{Scanning}
use Rattle.row_segment.proofs.join.scan.Given as goal

abbrev pub invariant-loop-a : goal.invariant-loop-a
invariant-loop-a l = Scanning l.job.at.bytes.now l.x l.initial.a l.e l.a l.m × Between l.job.at.bytes.now l.x l.initial.a l.a l.initial.s l.s l.initial.findings l.findings

abbrev pub decreases-loop-a : goal.decreases-loop-a
decreases-loop-a l = left l.x.count l.a
