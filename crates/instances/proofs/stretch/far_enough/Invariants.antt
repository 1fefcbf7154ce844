use Prim.Native.Nat.{◌-◌, ◌<◌}
use Rattle.instances.proofs.stretch.far_enough.Given as goal

abbrev pub invariant-loop-step : goal.invariant-loop-step
invariant-loop-step l = 0 < l.step

abbrev pub decreases-loop-step : goal.decreases-loop-step
decreases-loop-step l = l.all.rows - l.step
