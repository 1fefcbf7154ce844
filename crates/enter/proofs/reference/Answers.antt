use mathlib.Core.Path.{◌∙◌}
use Rattle.enter.proofs.Laws.{reference_or}
use Rattle.enter.proofs.reference.Goals as goal

pub returns : goal.returns
returns c = c.unwrap_or.ensures ∙ reference_or _ _ _ _ c.reference.ensures
