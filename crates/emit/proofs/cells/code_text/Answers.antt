use mathlib.Core.Path.{refl}
use Rattle.spec.specs.Answers.{stretch_of}
use Rattle.emit.proofs.cells.code_text.Goals as goal

pub returns : goal.returns
unfolding stretch_of
returns c = record { writes = λ job. record { text = c.held-value.ensures.text job; reason = refl }; plain = c.held-value.ensures.plain }
