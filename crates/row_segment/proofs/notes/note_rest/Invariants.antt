use Rattle.row_segment.specs.Stream.{Sees, left}
use Rattle.row_segment.specs.Notes.{Between}
use Rattle.row_segment.proofs.notes.note_rest.Given as goal

abbrev pub invariant-loop-a : goal.invariant-loop-a
invariant-loop-a l = Between l.job.at.bytes.now l.x l.initial.a l.a l.initial.s l.s l.initial.findings l.findings × Sees l.job.at.bytes.now l.x l.a

abbrev pub decreases-loop-a : goal.decreases-loop-a
decreases-loop-a l = left l.x.count l.a
