use mathlib.Core.Path.{sym, ◌∙◌}
use Rattle.emit.proofs.findings.stretch_holds.Goals as goal

pub returns : goal.returns
returns c = λ o p e. c.signs_of.ensures o p _ (sym c.stretch_holds.ensures ∙ e)
