use Rattle.nest.proofs.Placing.{storing_next, storing_end, room_for, stored_row, row_next}
use Rattle.nest.proofs.Bridge.{rows_is}
use Rattle.nest.proofs.NestLaws.{table_array_all}
use native.Mathlib.Omega.{arith}
use mathlib.Core.Path.{refl, sym, ◌∙◌}
use Rattle.nest.proofs.rows.nest_table.Goals as goal

pub put_record-requires : goal.put_record-requires
put_record-requires c = omega (arith, c.loop-r.invariant.long, c.requires.2, room_for _ _ _ _ _ c.first_row-first.ensures c.row_count-n.ensures c.loop-r-test.true)

pub loop-r-preserved : goal.loop-r-preserved
loop-r-preserved c = storing_next _ _ _ _ _ _ _ _ _ _ c.loop-r.invariant (c.row_count-n.ensures ∙ sym (rows_is _ _)) c.loop-r-test.true (stored_row _ _ _ _ _ _ _ _ c.place_of-p.ensures refl c.put_record.ensures) (row_next _ _ _ _)

pub returns : goal.returns
returns c = storing_end _ _ _ _ _ _ _ _ _ c.loop-r.invariant (c.row_count-n.ensures ∙ sym (rows_is _ _)) c.loop-r-test.false (table_array_all _ _)
