use native.Mathlib.Omega.{arith}
use Rattle.tables.proofs.Asking.{past_table, none_reference, stands_before}
use Rattle.tables.proofs.data.reference.Goals as goal

pub returns-then-n-t : goal.returns-then-n-t
returns-then-n-t c = none_reference _ _ _ (past_table _ _ c.requires _ _ c.data_count-n.ensures c.if-n-t.true)

pub reference-requires : goal.reference-requires
reference-requires c = rw c.place-p.ensures.0 (stands_before (c.requires.refs _ (omega (arith, c.data_count-n.ensures))))
