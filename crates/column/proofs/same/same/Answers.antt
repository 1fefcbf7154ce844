use Rattle.column.proofs.Equal.{other_kind, int_equal, days_equal, seconds_equal, stretch_equal, outside, of_answers, on_any, on_bytes}
use Rattle.column.proofs.Read.{within_bytes}
use Rattle.column.specs.Answers.{cell_at}
use Rattle.column.specs.Cell.{same_answer, same_cell, same_bytes}
use Rattle.std.proofs.Common.{sym, ◌∙◌}
use Rattle.column.proofs.same.same.Goals.{then-inside, else-inside}
use Rattle.column.proofs.same.same.Goals as goal

pub returns-in-None-None : goal.returns-in-None-None
unfolding cell_at same_answer
returns-in-None-None c = on_any _ _ _ _ (λ l. rw (c.in-None-None.is-0, c.in-None-None.is-1))

pub returns-in-Null-Null : goal.returns-in-Null-Null
unfolding cell_at same_answer same_cell same_bytes
returns-in-Null-Null c = on_any _ _ _ _ (λ l. rw (c.in-Null-Null.is-0, c.in-Null-Null.is-1))

pub returns-then-inside-2 : goal.returns-then-inside-2
unfolding cell_at
returns-then-inside-2 c =
    let i = c.in-Bytes-Bytes in
    on_bytes _ _ _ _ _ _ i.is-0 (of_answers _ _ _ _ (rw i.is-0 (stretch_equal c.args.job.now i.s i.n i.t i.m _ i.is-1 c.same_bytes.result c.same_bytes.ensures)))

pub returns-else-inside-2 : goal.returns-else-inside-2
returns-else-inside-2 c = on_bytes _ _ _ _ _ _ c.in-Bytes-Bytes.is-0 (λ x y h k. elim c.if-inside.branch [
  | then-inside w ↦ outside _ _ _ _ w.inside-then-inside.ensures (sym w.value-is ∙ c.if-inside-2.false) (within_bytes _ _ _ _ k.within c.in-Bytes-Bytes.is-1)
  | else-inside w ↦ outside _ _ _ _ c.inside.ensures w.if-inside.false (within_bytes _ _ _ _ h.within c.in-Bytes-Bytes.is-0)
])

pub returns-in-Int-Int : goal.returns-in-Int-Int
unfolding cell_at
returns-in-Int-Int c = on_any _ _ _ _ (λ l. rw c.in-Int-Int.is-0 (int_equal _ _ _ c.in-Int-Int.is-1 _))

pub returns-in-Wide-Wide : goal.returns-in-Wide-Wide
unfolding cell_at
returns-in-Wide-Wide c = on_any _ _ _ _ (λ l. rw (c.in-Wide-Wide.is-0, c.in-Wide-Wide.is-1) c.same_wide.ensures)

pub returns-in-Days-Days : goal.returns-in-Days-Days
unfolding cell_at
returns-in-Days-Days c = on_any _ _ _ _ (λ l. rw c.in-Days-Days.is-0 (days_equal _ _ _ c.in-Days-Days.is-1 _))

pub returns-in-Seconds-Seconds : goal.returns-in-Seconds-Seconds
unfolding cell_at
returns-in-Seconds-Seconds c = on_any _ _ _ _ (λ l. rw c.in-Seconds-Seconds.is-0 (seconds_equal _ _ _ c.in-Seconds-Seconds.is-1 _))

pub returns-in_default : goal.returns-in_default
unfolding cell_at
returns-in_default c = on_any _ _ _ _ (λ l. rw c.in_default.is-0 (other_kind _ _ c.in_default.not-None-1 _))

pub returns-in_default-2 : goal.returns-in_default-2
unfolding cell_at
returns-in_default-2 c = on_any _ _ _ _ (λ l. rw c.in_default.is-0 (other_kind _ _ c.in_default.not-Null-1 _))

pub returns-in_default-3 : goal.returns-in_default-3
unfolding cell_at
returns-in_default-3 c = on_any _ _ _ _ (λ l. rw c.in_default.is-0 (other_kind _ _ c.in_default.not-Bytes-1 _))

pub returns-in_default-4 : goal.returns-in_default-4
unfolding cell_at
returns-in_default-4 c = on_any _ _ _ _ (λ l. rw c.in_default.is-0 (other_kind _ _ c.in_default.not-Int-1 _))

pub returns-in_default-5 : goal.returns-in_default-5
unfolding cell_at
returns-in_default-5 c = on_any _ _ _ _ (λ l. rw c.in_default.is-0 (other_kind _ _ c.in_default.not-Wide-1 _))

pub returns-in_default-6 : goal.returns-in_default-6
unfolding cell_at
returns-in_default-6 c = on_any _ _ _ _ (λ l. rw c.in_default.is-0 (other_kind _ _ c.in_default.not-Days-1 _))

pub returns-in_default-7 : goal.returns-in_default-7
unfolding cell_at
returns-in_default-7 c = on_any _ _ _ _ (λ l. rw c.in_default.is-0 (other_kind _ _ c.in_default.not-Seconds-1 _))
