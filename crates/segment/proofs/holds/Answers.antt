use mathlib.Core.Path.{◌∙◌}
use Rattle.segment.specs.Values.{value_text}
use Rattle.segment.proofs.Texts.{one_byte}
use Rattle.segment.proofs.holds.Goals as goal

pub returns : goal.returns
returns c =
    let a = c.args in c.holds_any.ensures ∙ one_byte a.b (value_text a.job.now a.v)
