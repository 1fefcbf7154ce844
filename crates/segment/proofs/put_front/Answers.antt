use Prim.Native.Nat.{◌≤◌}
use native.Mathlib.Omega.{arith}
use lib.ListN.{length, take, replicate}
use Rattle.lent.specs.Fit.{cap}
use Rattle.lent.proofs.Laws.{stored_append}
use Rattle.segment.proofs.put_front.Goals as goal
use Rattle.segment.proofs.put_front.Goals.{Start}

pub returns : goal.returns
returns c =
    let a = c.args in
    let h : length a.doc.now ≤ cap = omega (arith, (goal.at.returns c).Start) in
    stored_append (replicate a.v.zeros 48) (take a.v.count a.v.bytes) h c.put_run-a.ensures c.put_stretch.ensures
