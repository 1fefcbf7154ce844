use Prim.Native.Nat.{◌≤◌}
use native.Mathlib.Omega.{arith}
use lib.ListN.{length}
use Rattle.lent.specs.Fit.{cap}
use Rattle.lent.proofs.Laws.{stored_append}
use Rattle.segment.proofs.put_filled.Goals as goal
use Rattle.segment.proofs.put_filled.Goals.{Start}

pub returns : goal.returns
returns c = let h : length c.args.doc.now ≤ cap = omega (arith, (goal.at.returns c).Start) in stored_append _ _ h c.put_due-a.ensures c.put_value.ensures
