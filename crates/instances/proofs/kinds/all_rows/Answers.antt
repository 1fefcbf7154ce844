use Rattle.instances.proofs.Made.{rows_made}
use Rattle.instances.proofs.kinds.all_rows.Goals as goal

pub returns : goal.returns
returns c = rw c.rowless.ensures (rows_made _ c.args.kind c.args.l c.args.t c.args.c _ _ c.args.above c.first_row-base.ensures c.row_count-rows.ensures)
