use Rattle.emit.proofs.FindingLaws.{none_stored}
use Rattle.emit.proofs.findings.try_delimiters.Goals as goal

pub returns : goal.returns
returns c = λ o p e. rw (c.holds_delimiter.ensures o p c.if-holds_delimiter.false) (none_stored c.more.ensures)
