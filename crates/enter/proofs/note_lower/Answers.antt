use Rattle.emit.proofs.FindingLaws.{none_stored}
use Rattle.enter.proofs.note_lower.Goals as goal

pub returns-in_default : goal.returns-in_default
returns-in_default c = rw c.in_default.is (none_stored c.more.ensures)
