use native.Mathlib.Omega.{arith}
use Rattle.tables.proofs.Filled.{firsts_none, firsts_more}
use Rattle.tables.proofs.fill.firsts_into.Goals as goal

pub loop-t-init : goal.loop-t-init
loop-t-init c = firsts_none _ _

pub loop-t-preserved : goal.loop-t-preserved
loop-t-preserved c = firsts_more _ _ _ _ _ _ _ _ (omega arith) c.loop-t.invariant c.put.ensures c.place-p.ensures.0 c.num-first.ensures.0 c.num-first.ensures.1
