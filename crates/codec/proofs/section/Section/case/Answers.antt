use Rattle.codec.proofs.Ways.{case_here, case_gone}
use Rattle.std.proofs.Common.{sym}
use Rattle.codec.proofs.section.Section.case.Goals as goal

pub returns-then-self-at : goal.returns-then-self-at
returns-then-self-at c = sym (case_gone _ _ _ c.if-self-at.true)

pub returns : goal.returns
returns c = sym (case_here _ _ _ c.if-self-at.false)
