use Rattle.std.proofs.Common.{arith}
use Rattle.texts.proofs.Passes.{down_next, down_done}
use Rattle.texts.proofs.Text.with_places.Goals as goal

pub loop-i-preserved : goal.loop-i-preserved
loop-i-preserved c = (omega arith, (omega arith, (omega arith, down_next _ _ _ _ _ _ _ _ c.loop-i-test.true c.loop-i.invariant.1.1.1)))

pub returns : goal.returns
returns c = (down_done _ _ _ _ _ _ _ c.loop-i-test.false c.requires.0 c.loop-i.invariant.1.1.0 c.loop-i.invariant.1.1.1, omega arith)
