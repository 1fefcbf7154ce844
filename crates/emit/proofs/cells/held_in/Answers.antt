use Rattle.column.specs.Answers.{cell_at}
use Rattle.std.proofs.lemmas.Option.{same_Some}
use Rattle.emit.specs.Puts.{cell_text}
use Rattle.emit.proofs.cells.held_in.Goals as goal

pub returns-in-None : goal.returns-in-None
unfolding cell_text cell_at
returns-in-None c = (λ b max s e. rw (c.in-None.is, ← same_Some _ _ e), λ e. rw c.in-None.is)

pub returns-in-Null : goal.returns-in-Null
unfolding cell_text cell_at
returns-in-Null c = (λ b max s e. rw (c.in-Null.is, ← same_Some _ _ e), λ e. rw c.in-Null.is)

pub returns-in-Bytes : goal.returns-in-Bytes
unfolding cell_text cell_at
returns-in-Bytes c = (λ b max s e. rw (c.in-Bytes.is, ← same_Some _ _ e), λ e. absurd cc)
