use mathlib.Core.Path.{sym, ◌∙◌}
use Rattle.due.proofs.Ways.{columns_some, placed_next, search_found, search_next, search_end}
use Rattle.due.proofs.cells.some_column.Goals as goal

pub returns-then-column_passes : goal.returns-then-column_passes
returns-then-column_passes g c = λ p h. sym (columns_some p _ ∙ search_found p c.loop-k.invariant.0 (c.loop-k.invariant.1 p h) c.loop-k-test.true c.element-e.ensures (c.column_passes.ensures _ p h) c.if-column_passes.true)

pub loop-k-preserved : goal.loop-k-preserved
loop-k-preserved g c = (
  placed_next c.loop-k.invariant.0 c.element-e.ensures,
  λ p h. search_next p c.loop-k.invariant.0 (c.loop-k.invariant.1 p h) c.loop-k-test.true c.element-e.ensures (c.column_passes.ensures _ p h) c.if-column_passes.false,
)

pub returns : goal.returns
returns g c = λ p h. sym (columns_some p _ ∙ search_end p c.loop-k.invariant.0 (c.loop-k.invariant.1 p h) c.loop-k-test.false)
