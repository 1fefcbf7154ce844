use mathlib.Core.Path.{ap, ◌∙◌}
use Rattle.nest.specs.Lists.{is}
use Rattle.walk.specs.Check.{repeat_table}
use Rattle.paths.proofs.Answers.{source_in_lem}
use Rattle.paths.proofs.repeats.repeats_table.Goals as goal

pub returns : goal.returns
returns c = c.is_repeat.ensures ∙ ap (λ v. is (repeat_table v) c.args.t.0) (source_in_lem _ _ _ _ c.source.ensures)
