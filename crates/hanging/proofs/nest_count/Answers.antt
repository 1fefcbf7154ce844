use Rattle.hanging.proofs.Laws.{array_long}
use Rattle.hanging.proofs.nest_count.Goals as goal

pub returns : goal.returns
returns c = array_long _ _ _ c.args.job.ready.tables.few_rows c.data_count-tables.ensures c.first_row-rows.ensures
