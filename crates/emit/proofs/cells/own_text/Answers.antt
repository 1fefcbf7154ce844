use mathlib.Core.Path.{refl}
use Rattle.column.specs.Answers.{cell_at}
use Rattle.emit.specs.Puts.{cell_text}
use Rattle.emit.proofs.cells.own_text.Goals as goal

pub returns-in-None : goal.returns-in-None
unfolding cell_text cell_at
returns-in-None c = λ b e. rw c.in-None.is (record { text = c.empty.ensures; reason = refl })

pub returns-in-Null : goal.returns-in-Null
unfolding cell_text cell_at
returns-in-Null c = λ b e. rw c.in-Null.is (record { text = c.empty-in-Null.ensures; reason = refl })

pub returns-in-Int : goal.returns-in-Int
unfolding cell_text cell_at
returns-in-Int c = λ b e. rw c.in-Int.is (record { text = c.int_text.ensures; reason = refl })

pub returns-in-Wide : goal.returns-in-Wide
unfolding cell_text cell_at
returns-in-Wide c = λ b e. rw c.in-Wide.is (record { text = c.decimal_text.ensures; reason = refl })

pub returns-in-Days : goal.returns-in-Days
unfolding cell_text cell_at
returns-in-Days c = λ b e. rw c.in-Days.is (rw c.max_at.ensures at c.said_days.ensures)

pub returns-in-Seconds : goal.returns-in-Seconds
unfolding cell_text cell_at
returns-in-Seconds c = λ b e. rw c.in-Seconds.is (rw c.max_at-in-Seconds.ensures at c.said_seconds.ensures)
