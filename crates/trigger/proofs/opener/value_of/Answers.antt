use Rattle.texts.specs.Said.{why_in}
use Rattle.texts.proofs.Answers.{some_there, no_reason}
use Rattle.trigger.specs.Source.{text_in}
use Rattle.trigger.proofs.Draws.{raw_text, plain_text, padded_is}
use mathlib.Core.Path.{sym, ◌∙◌}
use Rattle.trigger.proofs.opener.value_of.Goals as goal

pub returns-then-is_some : goal.returns-then-is_some
returns-then-is_some c = λ y h. let s = c.args.src in raw_text y.1 (why_in s.given.reason) (text_in c.args.job.now s) (some_there _ (sym c.is_some.ensures ∙ c.if-is_some.true))

pub returns : goal.returns
returns c = λ y h. padded_is y (why_in c.args.src.given.reason) _ _ c.width_of-min.result c.width_of-max.result h (no_reason _ (sym c.is_some.ensures ∙ c.if-is_some.false)) c.width_of-min.ensures c.width_of-max.ensures (rw (plain_text _ _ c.requires.1) at c.padded_value.ensures)
