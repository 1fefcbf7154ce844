use native.Mathlib.Omega.{arith}
use Rattle.tables.proofs.Asking.{at_num, at_nothing, row_there, rows_there, segment_there, none_segment, stands_before}
use Rattle.tables.proofs.data.segment_cell.Goals as goal

pub overflow_add-p : goal.overflow_add-p
overflow_add-p c = omega (arith, rows_there _ _ _ (at_num _ _ _ _ c.in-Some.is c.table_at.ensures), c.requires.short)

pub after_opt-requires : goal.after_opt-requires
after_opt-requires c = stands_before (row_there _ _ _ (at_num _ _ _ _ c.in-Some.is c.table_at.ensures))

pub opt_get-requires : goal.opt_get-requires
opt_get-requires c = stands_before (segment_there _ _ _ (at_num _ _ _ _ c.in-Some.is c.table_at.ensures) _ c.after_opt.ensures)

pub returns-in-Some : goal.returns-in-Some
returns-in-Some c = c.opt_get.ensures _ _ (omega arith) (segment_there _ _ _ (at_num _ _ _ _ c.in-Some.is c.table_at.ensures) _ c.after_opt.ensures)

pub returns-in-None : goal.returns-in-None
returns-in-None c = none_segment _ _ _ (at_nothing _ _ _ c.in-None.is c.table_at.ensures)
