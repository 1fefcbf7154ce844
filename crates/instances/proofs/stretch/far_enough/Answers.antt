use native.Mathlib.Omega.{arith}
use Rattle.instances.proofs.Stretches.{reached_at}
use Rattle.instances.proofs.stretch.far_enough.Goals as goal

pub returns-else-above : goal.returns-else-above
returns-else-above c = reached_at _ _ _ _ _ c.requires.1 _ _ c.above.ensures (omega arith) (omega (arith, c.loop-step-test.true)) c.if-above.false
