use native.Mathlib.Omega.{arith}
use Rattle.plan.proofs.Reading.{item_number}
use Rattle.plan.proofs.layout.order_item.Goals as goal

pub overflow_add-o : goal.overflow_add-o
overflow_add-o c = omega (arith, item_number _ _ c.requires)
