use Rattle.column.specs.Answers.{cell_at}
use Rattle.emit.specs.Puts.{cell_text}
use Rattle.repeat_segment.proofs.order.put_cell.Goals as goal

pub returns-in-None : goal.returns-in-None
unfolding cell_text cell_at
returns-in-None c = rw c.in-None.is c.part.ensures

pub returns-in-Null : goal.returns-in-Null
unfolding cell_text cell_at
returns-in-Null c = rw c.in-Null.is c.part-in-Null.ensures

pub returns-in-Bytes : goal.returns-in-Bytes
unfolding cell_text cell_at
returns-in-Bytes c = rw c.in-Bytes.is c.part-in-Bytes.ensures

pub returns-in-Int : goal.returns-in-Int
unfolding cell_text cell_at
returns-in-Int c = rw c.in-Int.is (c.put_text.ensures _ c.int_text.ensures)

pub returns-in-Wide : goal.returns-in-Wide
unfolding cell_text cell_at
returns-in-Wide c = rw c.in-Wide.is (c.put_text-in-Wide.ensures _ c.decimal_text.ensures)
