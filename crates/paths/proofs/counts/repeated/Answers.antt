use mathlib.Core.Path.{◌∙◌}
use borrow.Author.Tests.{le-ltb}
use Rattle.paths.proofs.Answers.{repeated_out, repeated_in}
use Rattle.paths.proofs.counts.repeated.Goals as goal

pub returns-then-t-tables : goal.returns-then-t-tables
returns-then-t-tables c = repeated_in _ _ _ c.tables.ensures.0 _ c.if-t-tables.true c.repeats.ensures

pub returns-else-t-tables : goal.returns-else-t-tables
returns-else-t-tables c = le-ltb _ _ c.if-t-tables.false ∙ repeated_out _ _ _ c.tables.ensures.0 c.if-t-tables.false
