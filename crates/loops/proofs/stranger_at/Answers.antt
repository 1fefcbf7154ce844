use Rattle.loops.proofs.Tangle.{stranger_says}
use Rattle.loops.proofs.stranger_at.Goals as goal

pub returns : goal.returns
returns c = stranger_says _ _ _ _ _ _ _ _ c.count_at-c.ensures.0 c.parent_is.ensures.says
