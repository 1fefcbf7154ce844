use Rattle.due.proofs.Loops.{inside_is}
use Rattle.due.proofs.inside.Goals as goal

pub returns : goal.returns
returns c = inside_is _ _ _ _ _ c.stands_inside.ensures c.instances-k.ensures
