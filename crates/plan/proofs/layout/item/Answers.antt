use Rattle.plan.proofs.PlannedLaws.{order_stands}
use Rattle.plan.proofs.Asking.{order_lacks}
use Rattle.plan.proofs.layout.item.Goals as goal

pub order_item-requires : goal.order_item-requires
order_item-requires c = order_stands c.order-o.ensures c.if-o-k.false

pub returns-then-o-k : goal.returns-then-o-k
returns-then-o-k c = order_lacks _ _ c.requires.0 _ c.requires.1 _ _ c.order-o.ensures.count c.if-o-k.true
