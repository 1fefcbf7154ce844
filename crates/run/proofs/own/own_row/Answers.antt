use Rattle.walk.specs.Contexts.{context_by}
use Rattle.run.proofs.Taking.{own_table, own_tableless}
use Rattle.run.proofs.own.own_row.Goals as goal

pub returns-in_err-table : goal.returns-in_err-table
returns-in_err-table c = rw c.from_residual.ensures (own_tableless _ _ (context_by c.args.c) _ c.instances-kind.ensures _ c.row_table.ensures c.in_err-table.was)

pub returns : goal.returns
returns c = own_table _ _ (context_by c.args.c) _ c.instances-kind.ensures _ c.row_table.ensures _ _ c.in_ok-table.was c.owner_in.ensures
