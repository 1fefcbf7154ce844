use Rattle.std.proofs.Common.{sym, ◌∙◌, rules}
use Rattle.texts.specs.Said.{why_in}
use Rattle.texts.proofs.Answers.{no_reason}
use Rattle.emit.specs.Written.{tried}
use Rattle.segment.specs.Values.{value_text}
use Rattle.emit.proofs.FindingLaws.{none_found}
use Rattle.emit.proofs.findings.silent.Goals as goal

pub returns : goal.returns
returns c = λ o p e. let a = c.args in none_found o p (why_in a.x.reason) (value_text a.job.now a.x.value) (tried a.d) (no_reason _ (sym c.is_some.ensures ∙ c.if-is_some.false)) (c.holds_delimiter.ensures o p (search rules))
