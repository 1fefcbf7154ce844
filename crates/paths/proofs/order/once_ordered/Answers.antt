use Rattle.paths.proofs.Answers.{order_segment}
use Rattle.paths.proofs.order.once_ordered.Goals as goal

pub returns : goal.returns
returns c = order_segment _ _ _ _ c.item_times-n.ensures
