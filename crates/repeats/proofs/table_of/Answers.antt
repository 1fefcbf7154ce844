use mathlib.Core.Path.{refl, sym, ◌∙◌}
use Rattle.nest.proofs.Bridge.{rows_is}
use Rattle.repeats.proofs.RowLaws.{table_is}
use Rattle.repeats.proofs.table_of.Goals as goal

pub returns : goal.returns
returns c = (refl, table_is c.args.job.ready _ c.first_row-base.ensures c.row_count-rows.ensures c.room_of-room.ensures, c.row_count-rows.ensures ∙ sym (rows_is _ _))
