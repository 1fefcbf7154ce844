use Rattle.instances.proofs.RowsLeft.{Looking}
use Rattle.instances.proofs.rows.next_row.Given as goal

abbrev pub invariant-loop-k : goal.invariant-loop-k
invariant-loop-k l = Looking l.nest l.cur l.seen l.k
