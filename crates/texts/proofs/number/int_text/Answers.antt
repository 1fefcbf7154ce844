use Rattle.std.proofs.Common.{ap, ◌∙◌, to_z-of_z}
use Rattle.texts.specs.Number.{int_text}
use Rattle.texts.specs.Held.{held}
use Rattle.texts.proofs.Signs.{int_is}
use Rattle.texts.proofs.number.int_text.Goals as goal

pub returns : goal.returns
returns c = c.whole_text.ensures ∙ ap held (int_is _ _ c.unsigned_abs.ensures.value ∙ ap int_text (to_z-of_z c.ranges.value))
