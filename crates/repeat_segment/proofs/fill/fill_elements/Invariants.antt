use Rattle.repeat_segment.proofs.FillLaws.{FillSoFar}
use Rattle.repeat_segment.proofs.fill.fill_elements.Given as goal

abbrev pub invariant-loop-i : goal.invariant-loop-i
invariant-loop-i l = FillSoFar l.job.at.bytes.now l.s l.k l.r.0 l.state l.initial.findings l.findings l.at l._i l.found l.entries
