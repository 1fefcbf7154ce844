use Rattle.loops.proofs.Tangle.{misplaced_says}
use Rattle.loops.proofs.misplaced_at.Goals as goal

pub returns : goal.returns
returns c = misplaced_says _ _ _ _ _ _ _ _ _ c.count_at-l.ensures.0 c.is_child.ensures.says
