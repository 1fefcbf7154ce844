use mathlib.Core.Path.{refl}
use native.Mathlib.Omega.{arith}
use Rattle.spec.proofs.Storing.{lists_none}
use Rattle.tables.proofs.fill.tables_into.Goals as goal

pub loop-t-init : goal.loop-t-init
loop-t-init c = (lists_none _ _ _ _ _ _ _ _ _ _ _ refl, omega arith)

pub loop-t-preserved : goal.loop-t-preserved
loop-t-preserved c = (c.table_into-p.ensures _ _ c.loop-t.invariant.0, omega arith)
