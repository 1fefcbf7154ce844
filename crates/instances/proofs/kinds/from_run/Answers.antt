use mathlib.Core.Path.{sym, ◌∙◌}
use Rattle.instances.proofs.FromRun.{from_first, from_own, from_head, from_nowhere}
use Rattle.instances.proofs.kinds.from_run.Goals as goal

pub returns-then-start-eq0 : goal.returns-then-start-eq0
returns-then-start-eq0 c = from_first _ _ (sym c.start_in-start.ensures ∙ c.if-start-eq0.true)

pub returns-then-parent_is : goal.returns-then-parent_is
returns-then-parent_is c = from_own _ _ _ c.parent_is.ensures c.if-parent_is.true

pub returns-in-Some : goal.returns-in-Some
returns-in-Some c = c.moved.ensures ∙ from_head _ _ _ c.start_in-start.ensures c.if-start-eq0.false _ c.parent_is.ensures c.if-parent_is.false _ c.row_of.ensures _ c.in-Some.is

pub returns-in-None : goal.returns-in-None
returns-in-None c = from_nowhere _ _ _ c.start_in-start.ensures c.if-start-eq0.false _ c.parent_is.ensures c.if-parent_is.false _ c.row_of.ensures c.in-None.is
