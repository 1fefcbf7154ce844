use Rattle.emit.proofs.FindingLaws.{none_held}
use Rattle.emit.proofs.findings.signs_of.Goals as goal

pub returns : goal.returns
returns c = λ o p text e. let d = c.args.d in none_held o p text d.element d.component d.segment d.repetition (rw c.unwrap_or-last.ensures at e)
