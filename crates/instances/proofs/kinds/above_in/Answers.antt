use native.Mathlib.Omega.{arith}
use Rattle.instances.proofs.Made.{above_top, above_row, above_lost, row_small}
use Rattle.instances.proofs.kinds.above_in.Goals as goal

pub returns-in_default : goal.returns-in_default
returns-in_default c = above_top _ _ _ _ c.table_parent.ensures c.in_default.is

pub returns-in_err-p : goal.returns-in_err-p
returns-in_err-p c = rw c.from_residual.ensures (above_lost _ _ _ _ c.table_parent.ensures _ _ c.in-Some.is c.row_of.ensures c.in_err-p.was)

pub overflow_add-result : goal.overflow_add-result
overflow_add-result c = omega (arith, row_small _ _ _ _ _ c.args.job.ready.tables.few_rows c.requires c.row_of.ensures c.in_ok-p.was)

pub returns : goal.returns
returns c = above_row _ _ _ _ c.table_parent.ensures _ _ _ c.in-Some.is c.row_of.ensures c.in_ok-p.was
