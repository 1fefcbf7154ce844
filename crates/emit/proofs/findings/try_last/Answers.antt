use Rattle.emit.proofs.FindingLaws.{none_tried}
use Rattle.segment.specs.Values.{value_text}
use Rattle.emit.proofs.findings.try_last.Goals as goal

pub returns-in-None : goal.returns-in-None
returns-in-None c = λ o p e. let a = c.args in rw c.in-None.is (none_tried o p (value_text a.job.now a.v) 3 c.more.ensures)
