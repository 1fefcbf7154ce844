use Rattle.nest.proofs.Claiming.{tried_here, tried_next, tried_end}
use Rattle.nest.proofs.Lining.{lined_end}
use Rattle.nest.proofs.Ways.{refers, refers_not}
use native.Mathlib.Omega.{arith}
use Rattle.nest.proofs.hang.claim_along.Goals as goal

pub returns-in-Some : goal.returns-in-Some
returns-in-Some c = tried_here _ _ _ _ _ c.loop-k.invariant _ _ _ _ (c.requires.next _ c.loop-k-test.true) (refers _ _ _ _ _ c.reference.ensures _ c.in-Some.is)

pub loop-k-preserved : goal.loop-k-preserved
loop-k-preserved c = tried_next _ _ _ _ _ c.loop-k.invariant _ _ _ (c.requires.next _ c.loop-k-test.true) (refers_not _ _ _ _ _ c.reference.ensures c.in-None.is)

pub returns : goal.returns
returns c = tried_end _ _ _ _ _ c.loop-k.invariant (lined_end _ _ _ _ c.requires (omega arith) c.loop-k-test.false)
