use mathlib.Core.Bool.{true, false}
use mathlib.Core.Path.{sym, ◌∙◌}
use Rattle.instances.proofs.Made.{inside_is, shown_row, shown_none}
use Rattle.instances.proofs.kinds.inside_itself.Goals as goal

pub returns-in_default : goal.returns-in_default
returns-in_default c = inside_is _ false _ _ _ c.rowless.ensures (shown_none _ _ _ _ _ c.row_of.ensures c.in_default.is)

pub returns-then-shown : goal.returns-then-shown
returns-then-shown c = inside_is _ true _ _ _ c.rowless-then-shown.ensures (shown_row _ _ _ _ _ _ _ c.row_of.ensures c.in-Some.is (sym c.if-shown.true ∙ c.shown.ensures))

pub returns-else-shown : goal.returns-else-shown
returns-else-shown c = inside_is _ false _ _ _ c.rowless-else-shown.ensures (shown_row _ _ _ _ _ _ _ c.row_of.ensures c.in-Some.is (sym c.if-shown.false ∙ c.shown.ensures))
