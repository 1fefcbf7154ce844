use mathlib.Core.Path.{◌∙◌}
use Rattle.run.proofs.Reading.{controlled_by}
use Rattle.run.proofs.segments.controlled.Goals as goal

pub returns : goal.returns
returns c = c.is_some.ensures ∙ controlled_by _ _ _ c.control.ensures
