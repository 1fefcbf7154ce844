use mathlib.Core.Path.{ap, ◌∙◌}
use mathlib.Core.Bool.{not}
use Rattle.paths.proofs.Answers.{once_rows, once_other}
use Rattle.paths.proofs.repeats.planned_once.Goals as goal

pub returns-then-not-has_rows : goal.returns-then-not-has_rows
returns-then-not-has_rows c = ap not c.if-not-has_rows.true ∙ once_other _ _ _ _ _ c.kind.ensures c.has_rows.ensures c.if-not-has_rows.true

pub returns-else-not-has_rows : goal.returns-else-not-has_rows
returns-else-not-has_rows c = once_rows _ _ _ _ _ c.kind.ensures c.has_rows.ensures _ c.if-not-has_rows.false c.repeats_in.ensures
