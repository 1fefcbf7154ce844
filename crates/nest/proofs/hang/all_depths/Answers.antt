use Rattle.nest.proofs.Claiming.{depth_fits, sounded_zeros, sounded_all}
use native.Mathlib.Omega.{arith}
use Rattle.nest.proofs.hang.all_depths.Goals as goal

pub loop-l-init : goal.loop-l-init
loop-l-init c = sounded_zeros _

pub overflow_cast-depths : goal.overflow_cast-depths
overflow_cast-depths c = omega (arith, depth_fits _ _ _ c.args.job.ready.spec.few_loops c.depth.ensures)

pub returns : goal.returns
returns c = sounded_all _ _ _ _ c.loop-l.invariant c.loop_count-n.ensures (omega arith)
