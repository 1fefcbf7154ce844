use Prim.Native.Nat.{◌≤◌}
use native.Mathlib.Omega.{arith}
use lib.ListN.{length}
use Rattle.lent.specs.Fit.{cap}
use Rattle.segment.proofs.Strokes.{stored_due}
use Rattle.segment.proofs.put_due.Goals as goal
use Rattle.segment.proofs.put_due.Goals.{Start}

pub returns : goal.returns
returns c =
    let a = c.args in
    let h : length a.doc.now ≤ cap = omega (arith, (goal.at.returns c).Start) in
    stored_due a.s a.pen a.p a.c c.components_in-stand.ensures c.saturating_sub-behind.ensures c.saturating_sub-m.ensures c.saturating_sub-n.ensures h
    c.put_run-a.ensures c.put_run.ensures
