use mathlib.Core.Path.{sym, ◌∙◌}
use Rattle.census.proofs.Widths.{rows_room_for, rows_small, rows_climb, fan_all, fan_hung}
use Rattle.census.proofs.fan.Goals as goal

pub invariant_of-longest : goal.invariant_of-longest
invariant_of-longest c = record { within = rows_room_for c.args.nest.nested _ _ c.row_count-rows.ensures _ c.first_row-base.ensures }

pub longest-requires : goal.longest-requires
longest-requires c = (rows_climb c.args.nest.nested _ _ c.row_count-rows.ensures _ c.first_row-base.ensures (sym c.rises.ensures ∙ c.if-rises.true), rows_small c.args.nest.nested _ _ c.row_count-rows.ensures)

pub returns-in-Some : goal.returns-in-Some
returns-in-Some c = fan_hung c.args.nest.nested _ _ c.row_count-rows.ensures _ c.first_row-base.ensures _ _ _ c.table_parent-parent.ensures c.in-Some.is c.longest.ensures

pub returns-in_default : goal.returns-in_default
returns-in_default c = fan_all c.args.nest.nested _ _ c.row_count-rows.ensures

pub returns-in_default-2 : goal.returns-in_default-2
returns-in_default-2 c = fan_all c.args.nest.nested _ _ c.row_count-rows.ensures
