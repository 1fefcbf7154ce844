use Rattle.repeat_segment.specs.Places.{rank_of}
use Rattle.repeat_segment.proofs.FirstLaws.{FirstSoFar}
use Rattle.repeat_segment.proofs.scan.first_at.Given as goal

abbrev pub invariant-loop-i : goal.invariant-loop-i
invariant-loop-i l = FirstSoFar l.job l.s l.count l.p (rank_of l.c) l.f l.at l._i
