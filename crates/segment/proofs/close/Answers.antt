use Prim.Native.Nat.{◌≤◌}
use native.Mathlib.Omega.{arith}
use lib.ListN.{length}
use Rattle.lent.specs.Fit.{cap}
use Rattle.segment.proofs.Strokes.{stored_closing}
use Rattle.segment.proofs.close.Goals as goal
use Rattle.segment.proofs.close.Goals.{Start}

pub returns : goal.returns
returns c =
    let a = c.args in
    let h : length a.doc.now ≤ cap = omega (arith, (goal.at.returns c).Start) in
    stored_closing a.s a.pen a.last h c.saturating_sub-left.ensures c.put_run-a.ensures c.put_ending.ensures
