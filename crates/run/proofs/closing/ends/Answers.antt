use mathlib.Core.Path.{◌∙◌}
use Rattle.run.proofs.Reading.{ends_by}
use Rattle.run.proofs.closing.ends.Goals as goal

pub returns : goal.returns
returns c = c.is_some.ensures ∙ ends_by _ _ _ _ c.loop_end.ensures
