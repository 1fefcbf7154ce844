use Rattle.tables.proofs.Filled.{Firsts}
use Rattle.tables.proofs.fill.firsts_into.Given as goal

abbrev pub invariant-loop-t : goal.invariant-loop-t
invariant-loop-t l = Firsts l.job l.t l.first l.initial.index l.index
