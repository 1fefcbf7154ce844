use mathlib.Core.Path.{◌∙◌}
use Rattle.due.proofs.Loops.{fills_by, fills_not}
use Rattle.due.proofs.row_fills.Goals as goal

pub returns-then-filled_by : goal.returns-then-filled_by
returns-then-filled_by c = fills_by _ _ _ _ _ _ _ c.segment-s.ensures.segment.source c.filled_by.ensures _ c.if-filled_by.true c.filled.ensures

pub returns-else-filled_by : goal.returns-else-filled_by
returns-else-filled_by c = c.if-filled_by.false ∙ fills_not _ _ _ _ _ _ _ c.segment-s.ensures.segment.source c.filled_by.ensures c.if-filled_by.false
