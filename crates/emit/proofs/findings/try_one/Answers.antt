use Rattle.segment.specs.Values.{value_text}
use mathlib.Core.Path.{sym, ◌∙◌}
use Rattle.emit.proofs.FindingLaws.{stored_held, stored_not_held}
use Rattle.emit.proofs.findings.try_one.Goals as goal

pub returns-then-holds : goal.returns-then-holds
returns-then-holds c = λ o p e. let a = c.args in stored_held o p (value_text a.job.now a.v) a.role a.b e (sym c.holds.ensures ∙ c.if-holds.true) c.note.ensures

pub returns : goal.returns
returns c = λ o p e. let a = c.args in stored_not_held o p (value_text a.job.now a.v) a.role a.b (sym c.holds.ensures ∙ c.if-holds.false) c.more.ensures
