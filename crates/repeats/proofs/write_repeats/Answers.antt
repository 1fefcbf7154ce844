use mathlib.Core.Path.{sym, ◌∙◌}
use Rattle.nest.proofs.Placing.{repeats_is}
use Rattle.repeats.proofs.SoFar.{took_nothing}
use Rattle.repeats.proofs.RowLaws.{rows_plain}
use borrow.Author.Rules.{rules}
use Rattle.repeats.proofs.write_repeats.Goals as goal

pub write_hooked-requires : goal.write_hooked-requires
write_hooked-requires c = (c.requires.0, c.requires.1, c.requires.2, search rules, sym (repeats_is _ _ _ c.repeats-again.ensures) ∙ c.if-again.true, c.requires.3)

pub returns : goal.returns
returns c = took_nothing _ _ _ c.args.nest.nested _ _ _ _ _ _ c.requires.0 (rows_plain _ _ _ _ _ c.repeats-again.ensures c.if-again.false)
