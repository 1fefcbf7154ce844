use mathlib.Core.Path.{sym, ◌∙◌}
use borrow.Author.Tests.{eq-eqb}
use Rattle.instances.proofs.RowsLeft.{passes_all, passes_held}
use Rattle.instances.proofs.rows.passes.Goals as goal

pub returns-then-above-eq0 : goal.returns-then-above-eq0
returns-then-above-eq0 c = eq-eqb _ _ c.if-above-eq0.true ∙ sym (passes_all _ _ _ _ c.if-above-eq0.true)

pub returns-else-above-eq0 : goal.returns-else-above-eq0
returns-else-above-eq0 c = c.held_at.ensures ∙ sym (passes_held _ _ _ _ c.if-above-eq0.false)
