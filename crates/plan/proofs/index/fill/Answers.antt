use mathlib.Core.Path.{sym, ◌∙◌}
use Rattle.plan.proofs.Filled.{filled}
use Rattle.plan.proofs.index.fill.Goals as goal

pub returns : goal.returns
returns c =
    filled _ _ _ _ _ _ _ c.requires c.start-plan.ensures c.start-layout.ensures c.section-2.ensures.1
    (rw (c.section.ensures.0, c.section.ensures.1 ∙ sym c.start-layout.ensures) at c.plan_into.ensures) (rw c.section-2.ensures.0 at c.layout_into.ensures)
