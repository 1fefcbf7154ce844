use Rattle.enter.proofs.Laws.{numbers_within, above_repeat, above_parent}
use mathlib.Core.Path.{◌∙◌}
use Rattle.enter.proofs.table_above.Goals as goal

pub placed_by-requires : goal.placed_by-requires
placed_by-requires c = numbers_within c.args.nest.nested _ _ c.requires _ c.first_row-first.ensures

pub returns-then-again : goal.returns-then-again
returns-then-again c = c.placed_by.ensures ∙ above_repeat c.args.nest.nested _ _ c.requires _ _ c.repeats-again.ensures c.if-again.true c.first_row-first.ensures

pub returns : goal.returns
returns c = above_parent _ _ _ _ c.table_parent.result c.repeats-again.ensures c.if-again.false c.table_parent.ensures
