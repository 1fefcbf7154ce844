use Rattle.paths.proofs.Answers.{order_loop}
use Rattle.paths.proofs.order.order_right.Goals as goal

pub returns : goal.returns
returns c = order_loop _ _ _ _ _ c.requires c.child_times.ensures
