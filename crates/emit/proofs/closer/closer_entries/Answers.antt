use Rattle.emit.proofs.JoinLaws.{entries_two, entries_one}
use mathlib.Core.Path.{sym, ◌∙◌}
use Rattle.emit.proofs.closer.closer_entries.Goals as goal

pub returns-then-closer-count : goal.returns-then-closer-count
returns-then-closer-count c = λ k control n e f. entries_two k control n (e ∙ c.if-closer-count.true ∙ sym f)

pub returns : goal.returns
returns c = λ k control n e f. entries_one k control n (λ z. c.if-closer-count.false (sym e ∙ z ∙ f))
