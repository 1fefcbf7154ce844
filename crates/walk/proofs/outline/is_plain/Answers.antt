use Rattle.walk.proofs.OutlineLaws.{plain_here, plain_past}
use Rattle.walk.proofs.outline.is_plain.Goals as goal

pub returns-then-t-table_count : goal.returns-then-t-table_count
returns-then-t-table_count c = plain_here _ _ _ c.table_count.ensures _ c.if-t-table_count.true c.repeats.ensures

pub returns-else-t-table_count : goal.returns-else-t-table_count
returns-else-t-table_count c = plain_past _ _ _ c.table_count.ensures c.if-t-table_count.false
