use Rattle.paths.proofs.BelowLaws.{CountedSoFar}
use Rattle.paths.proofs.below.how_often.Given as goal

abbrev pub invariant-loop-i : goal.invariant-loop-i
invariant-loop-i g l = CountedSoFar (goal.F-post g l.gives) l.n l.i l.seen
