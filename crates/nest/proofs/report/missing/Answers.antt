use Rattle.nest.proofs.Placing.{repeats_is}
use mathlib.Core.Path.{sym, ◌∙◌}
use Rattle.nest.proofs.report.missing.Goals as goal

pub repeat_missing-requires : goal.repeat_missing-requires
repeat_missing-requires c = (c.requires, sym (repeats_is _ _ _ c.repeats.ensures) ∙ c.if-repeats.true)

pub parent_missing-requires : goal.parent_missing-requires
parent_missing-requires c = sym (repeats_is _ _ _ c.repeats.ensures) ∙ c.if-repeats.false
