use Rattle.spec.proofs.Storing.{items_none, items_more, items_all}
use mathlib.Core.Path.{refl}
use native.Mathlib.Omega.{arith}
use Rattle.spec.proofs.region.list_into.Goals as goal

pub loop-i-init : goal.loop-i-init
loop-i-init g c = (items_none _ _ _ _ _ _ _ refl, omega arith)

pub loop-i-preserved : goal.loop-i-preserved
loop-i-preserved g c = (items_more _ _ _ _ _ _ _ _ _ _ _ c.loop-i.invariant.0 c.put_item.ensures c.ends_at-p.ensures, omega arith)

pub returns : goal.returns
returns g c = items_all _ _ _ _ _ _ _ _ _ _ _ _ c.count_at-n.ensures.0 c.le_at-p.ensures (omega arith) c.loop-i.invariant.0 c.put.ensures
