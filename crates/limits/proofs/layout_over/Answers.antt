use Rattle.format.proofs.Fields.{is_layout}
use Rattle.says.proofs.Walk.{says_at}
use Rattle.limits.proofs.layout_over.Goals as goal

pub returns : goal.returns
returns c v i = let l = is_layout _ _ _ v i in (says_at _ _ _ _ _ _ _ _ c.larges_at.ensures l.capacity (cc))
