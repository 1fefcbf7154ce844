use Rattle.std.proofs.Common.{arith}
use Rattle.texts.proofs.Answers.{some_reason}
use Rattle.emit.proofs.FindingLaws.{stored_reason, stored_no_reason}
use Rattle.emit.proofs.findings.note_reason.Goals as goal

pub returns-in-Some : goal.returns-in-Some
returns-in-Some c = λ o p e. rw c.in-Some.is (stored_reason o p _ e (some_reason _) (rw c.reason_of.ensures at c.note.ensures))

pub returns-in-None : goal.returns-in-None
returns-in-None c = λ o p e. rw c.in-None.is (stored_no_reason o p 0 (omega arith) c.more.ensures)
