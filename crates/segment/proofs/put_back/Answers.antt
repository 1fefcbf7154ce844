use Prim.Native.Nat.{◌≤◌}
use native.Mathlib.Omega.{arith}
use lib.ListN.{length, replicate}
use Rattle.lent.specs.Fit.{cap}
use Rattle.lent.specs.Window.{stretch}
use Rattle.lent.proofs.Laws.{stored_append}
use Rattle.segment.proofs.put_back.Goals as goal
use Rattle.segment.proofs.put_back.Goals.{Start}

pub returns : goal.returns
returns c =
    let a = c.args in
    let h : length a.doc.now ≤ cap = omega (arith, (goal.at.returns c).Start) in
    stored_append (stretch a.job.now a.v.start a.v.len) (replicate a.v.spaces 32) h c.put_stretch-a.ensures c.put_run-2.ensures
