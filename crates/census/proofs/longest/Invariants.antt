use Rattle.census.proofs.Widths.{Longest}
use Rattle.census.proofs.longest.Given as goal

abbrev pub invariant-loop-k : goal.invariant-loop-k
invariant-loop-k l = Longest l.all.array.now l.all.base l.all.rows l.k l.last l.run l.best
