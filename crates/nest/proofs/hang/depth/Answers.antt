use Rattle.nest.proofs.Ways.{climb_start, climb_up, climb_top, climb_end}
use native.Mathlib.Omega.{arith}
use Rattle.nest.proofs.hang.depth.Goals as goal

pub loop-d-init : goal.loop-d-init
loop-d-init c = climb_start _ _ _ c.loop_count-n.ensures

pub loop-d-preserved : goal.loop-d-preserved
loop-d-preserved c = climb_up _ _ _ _ _ _ c.loop_parent.ensures c.loop-d.invariant _ c.loop-d-test.true c.in-Some.is

pub returns-in-None : goal.returns-in-None
returns-in-None c = climb_top _ _ _ _ _ _ c.loop_parent.ensures c.loop-d.invariant c.in-None.is

pub returns : goal.returns
returns c = climb_end _ _ _ _ _ (omega arith) c.loop-d-test.false c.loop-d.invariant
