use mathlib.Core.Path.{sym}
use Rattle.walk.proofs.ContextLaws.{row_none, row_some}
use Rattle.walk.proofs.row_in.Goals as goal

pub returns-then-p-eq0 : goal.returns-then-p-eq0
returns-then-p-eq0 c = sym (row_none _ _ c.if-p-eq0.true)

pub returns : goal.returns
returns c = sym (row_some _ _ c.if-p-eq0.false)
