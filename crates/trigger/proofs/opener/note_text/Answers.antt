use Rattle.emit.proofs.FindingLaws.{none_stored}
use Rattle.trigger.proofs.opener.note_text.Goals as goal

pub returns-in-None : goal.returns-in-None
returns-in-None c = rw c.in-None.is (none_stored c.more.ensures)
