use Rattle.std.proofs.Common.{rules}
use Rattle.texts.proofs.Wholes.{shortens_more}
use Rattle.texts.proofs.number.without_zeros.Goals as goal

pub loop-left-preserved : goal.loop-left-preserved
loop-left-preserved c = shortens_more _ _ _ _ c.loop-left.invariant c.loop-left-test.true (search rules) c.if-rest-ne0.false
