use Rattle.nest.proofs.Placing.{repeats_is}
use mathlib.Core.Path.{sym, ◌∙◌}
use Rattle.nest.proofs.hang.place_of.Goals as goal

pub repeat_place-requires : goal.repeat_place-requires
repeat_place-requires c = (c.requires.0, c.requires.1, sym (repeats_is _ _ _ c.repeats.ensures) ∙ c.if-repeats.true, c.requires.2)

pub parent_place-requires : goal.parent_place-requires
parent_place-requires c = (c.requires.0, sym (repeats_is _ _ _ c.repeats.ensures) ∙ c.if-repeats.false)
