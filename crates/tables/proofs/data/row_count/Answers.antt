use Rattle.tables.proofs.Asking.{at_num, rows_is, rows_there}
use Rattle.tables.proofs.data.row_count.Goals as goal

pub num_in-requires : goal.num_in-requires
num_in-requires c = rows_there _ _ _ (at_num _ _ _ _ c.in-Some.is c.table_at.ensures)

pub returns-in-Some : goal.returns-in-Some
returns-in-Some c = rows_is _ _ _ (at_num _ _ _ _ c.in-Some.is c.table_at.ensures) _ c.num_in.ensures.0
