use Rattle.codec.proofs.Ways.{le_four}
use native.Mathlib.Omega.{arith}
use Rattle.codec.proofs.num.Goals as goal

pub returns : goal.returns
returns c = (cc (le_four _ _), omega arith)
