use borrow.Author.Tests.{le-ltb}
use mathlib.Core.Path.{◌∙◌}
use Rattle.due.proofs.Loops.{opener_past, opener_is}
use Rattle.due.proofs.opener_at.Goals as goal

pub returns-then-i-n : goal.returns-then-i-n
returns-then-i-n c = opener_is _ _ _ _ c.planned_count-n.ensures _ _ c.if-i-n.true c.source.ensures c.is_opener.ensures

pub returns-else-i-n : goal.returns-else-i-n
returns-else-i-n c = le-ltb _ _ c.if-i-n.false ∙ opener_past _ _ _ _ c.planned_count-n.ensures c.if-i-n.false
