use Rattle.loops.proofs.Tangle.{unlisted_says}
use Rattle.loops.proofs.unlisted_at.Goals as goal

pub returns : goal.returns
returns c = unlisted_says _ _ _ _ _ _ _ _ c.count_at-p.ensures.0 c.is_child.ensures.says
