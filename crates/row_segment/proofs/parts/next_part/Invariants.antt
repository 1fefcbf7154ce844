use Rattle.row_segment.proofs.StreamLaws.{Through}
use Rattle.row_segment.proofs.parts.next_part.Given as goal

abbrev pub invariant-loop-i : goal.invariant-loop-i
invariant-loop-i l = Through l.job.at.bytes.now l.x l.k l.i l.p
