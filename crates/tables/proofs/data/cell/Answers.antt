use native.Mathlib.Omega.{arith}
use Rattle.spec.proofs.RegionLaws.{listed_room}
use Rattle.tables.proofs.Asking.{past_table, column_there, column_past, none_cell, stands_before}
use Rattle.tables.proofs.data.cell.Goals as goal

pub returns-then-n-t : goal.returns-then-n-t
returns-then-n-t c = none_cell _ _ _ _ (past_table _ _ c.requires _ _ c.data_count-n.ensures c.if-n-t.true)

pub cell-requires : goal.cell-requires
cell-requires c = stands_before (column_there _ _ c.requires _ _ _ (omega (arith, c.data_count-n.ensures)) c.in-Some.ensures)

pub item_place-requires : goal.item_place-requires
item_place-requires c = record { small = omega arith; there = listed_room _ _ _ _ _ _ (omega arith) (c.requires.columns _ (omega (arith, c.data_count-n.ensures))) }

pub returns-in-Some : goal.returns-in-Some
returns-in-Some c = c.cell.ensures _ _ (omega arith) (column_there _ _ c.requires _ _ _ (omega (arith, c.data_count-n.ensures)) c.in-Some.ensures)

pub returns-in-None : goal.returns-in-None
returns-in-None c = column_past _ _ c.requires _ _ _ (omega (arith, c.data_count-n.ensures)) c.in-None.ensures
