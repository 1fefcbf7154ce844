use mathlib.Core.Path.{◌∙◌}
use Rattle.spec.specs.Answers.{stretch_of}
use Rattle.trigger.proofs.Givens.{bytes_same}
use Rattle.trigger.proofs.given.same.Goals as goal

pub returns : goal.returns
unfolding stretch_of
returns c = c.same_bytes.ensures ∙ bytes_same _ _
