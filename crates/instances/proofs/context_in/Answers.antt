use mathlib.Core.Path.{sym, ◌∙◌}
use Rattle.instances.proofs.Cursors.{made_one, made_row, made_run}
use Rattle.instances.proofs.context_in.Goals as goal

pub returns-in-Itself : goal.returns-in-Itself
returns-in-Itself c = sym (made_one _ _ c.in-Itself.is)

pub returns-in-Rows : goal.returns-in-Rows
returns-in-Rows c = c.in_row.ensures ∙ sym (made_row _ _ c.in-Rows.is)

pub returns-in-Nothing : goal.returns-in-Nothing
returns-in-Nothing c = c.in_piece.ensures ∙ sym (made_run _ _ c.in-Nothing.is)
