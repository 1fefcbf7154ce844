use mathlib.Core.Path.{sym, ◌∙◌}
use Rattle.emit.proofs.findings.holds_delimiter.Goals as goal

pub returns : goal.returns
returns c = λ o p e. c.signs_of.ensures o p _ (sym c.holds_any.ensures ∙ e)
