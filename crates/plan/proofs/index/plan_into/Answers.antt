use mathlib.Core.Path.{refl}
use native.Mathlib.Omega.{arith}
use Rattle.spec.proofs.Storing.{lists_none}
use Rattle.plan.proofs.Filled.{plan_into}
use Rattle.plan.proofs.index.plan_into.Goals as goal

pub loop-l-init : goal.loop-l-init
loop-l-init c = (lists_none _ _ _ _ _ _ _ _ _ _ _ refl, omega arith)

pub loop-l-preserved : goal.loop-l-preserved
loop-l-preserved c = (c.loop_plan_into-p.ensures _ _ c.loop-l.invariant.0, omega arith)

pub shape_of-index : goal.shape_of-index
shape_of-index c = (plan_into _ _ _ _ _ _ _ _ _ _ c.count_at-n.ensures.0 c.le_at-p.ensures (omega arith) c.loop-l.invariant.0 c.put.ensures).kept.long

pub returns : goal.returns
returns c = plan_into _ _ _ _ _ _ _ _ _ _ c.count_at-n.ensures.0 c.le_at-p.ensures (omega arith) c.loop-l.invariant.0 c.put.ensures
