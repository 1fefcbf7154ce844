use Prim.Native.Nat.{◌≤◌}
use native.Mathlib.Omega.{arith}
use lib.ListN.{length}
use Rattle.lent.specs.Fit.{cap}
use Rattle.segment.proofs.Texts.{stored_value}
use Rattle.segment.proofs.put_value.Goals as goal
use Rattle.segment.proofs.put_value.Goals.{Start}

pub returns : goal.returns
returns c =
    let a = c.args in
    let h : length a.doc.now ≤ cap = omega (arith, (goal.at.returns c).Start) in
    stored_value a.job.now a.v h c.put_front-a.ensures c.put_back.ensures
