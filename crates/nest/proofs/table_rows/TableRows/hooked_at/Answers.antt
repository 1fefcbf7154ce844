use mathlib.Core.Path.{sym, ◌∙◌}
use Rattle.nest.proofs.FoundLaws.{hooked_there, hooked_no}
use Rattle.nest.proofs.table_rows.TableRows.hooked_at.Goals as goal

pub returns-then-held_at : goal.returns-then-held_at
returns-then-held_at c = hooked_there _ _ _ _ _ (sym c.held_at.ensures ∙ c.if-held_at.true)

pub returns-else-held_at : goal.returns-else-held_at
returns-else-held_at c = c.if-held_at.false ∙ sym (hooked_no _ _ _ _ _ (sym c.held_at.ensures ∙ c.if-held_at.false))
