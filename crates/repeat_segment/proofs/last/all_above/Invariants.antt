use Rattle.repeat_segment.proofs.ZeroLaws.{AboveSoFar}
use Rattle.repeat_segment.proofs.last.all_above.Given as goal

abbrev pub invariant-loop-i : goal.invariant-loop-i
invariant-loop-i l = AboveSoFar l.job l.fn.s l.at l._i
