use Rattle.emit.proofs.FindingLaws.{none_stored}
use Rattle.trigger.proofs.opener.try_checked.Goals as goal

pub returns : goal.returns
returns c = λ o p e. rw c.if-checked.false (none_stored c.more.ensures)
