use mathlib.Core.Path.{◌∙◌}
use Rattle.emit.proofs.TextLaws.{text_or}
use Rattle.emit.proofs.cells.text_in.Goals as goal

pub returns : goal.returns
returns c = c.unwrap_or.ensures ∙ text_or c.args.said _ c.empty.ensures
