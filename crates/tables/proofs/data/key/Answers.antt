use native.Mathlib.Omega.{arith}
use Rattle.tables.proofs.Asking.{at_num, at_nothing, row_there, rows_there, none_key, stands_before}
use Rattle.tables.proofs.data.key.Goals as goal

pub overflow_add-p : goal.overflow_add-p
overflow_add-p c = omega (arith, rows_there _ _ _ (at_num _ _ _ _ c.in-Some.is c.table_at.ensures), c.requires.short)

pub key-requires : goal.key-requires
key-requires c = stands_before (row_there _ _ _ (at_num _ _ _ _ c.in-Some.is c.table_at.ensures))

pub returns-in-Some : goal.returns-in-Some
returns-in-Some c = c.key.ensures _ _ (omega arith) (row_there _ _ _ (at_num _ _ _ _ c.in-Some.is c.table_at.ensures))

pub returns-in-None : goal.returns-in-None
returns-in-None c = none_key _ _ (at_nothing _ _ _ c.in-None.is c.table_at.ensures)
