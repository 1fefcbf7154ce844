use Rattle.nest.proofs.Reports.{reported_more, reported_all}
use native.Mathlib.Omega.{arith}
use Rattle.nest.proofs.noted.each_below.Goals as goal
use Rattle.nest.proofs.noted.each_below.Goals.{Start}

pub loop-k-preserved : goal.loop-k-preserved
loop-k-preserved g c = λ p h. reported_more _ _ _ _ _ _ _ _ _ (omega (arith, (goal.at.loop-k-preserved g c).Start)) c.loop-k-test.true (c.loop-k.invariant p h) (h _ _ _ _ _ c.loop-k-test.true c.note-next.ensures)

pub returns : goal.returns
returns g c = λ p h. reported_all _ _ _ _ _ _ _ c.loop-k-test.false (c.loop-k.invariant p h)
