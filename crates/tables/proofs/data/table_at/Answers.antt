use Rattle.tables.proofs.Asking.{past_table, table_there}
use Rattle.tables.proofs.data.table_at.Goals as goal

pub returns-then-n-t : goal.returns-then-n-t
returns-then-n-t c = past_table _ _ c.requires _ _ c.data_count-n.ensures c.if-n-t.true

pub returns : goal.returns
returns c = table_there _ _ c.requires _ _ _ c.data_count-n.ensures c.if-n-t.false c.place.ensures.0
