use Prim.Native.Nat.{◌≤◌}
use native.Mathlib.Omega.{arith}
use lib.ListN.{length}
use Rattle.lent.specs.Fit.{cap}
use Rattle.lent.proofs.Laws.{stored_append}
use Rattle.segment.proofs.Strokes.{ending_break, ending_none}
use mathlib.Core.List.{[], ◌∷◌}
use Rattle.segment.proofs.put_ending.Goals as goal
use Rattle.segment.proofs.put_ending.Goals.{Start}

pub returns-then-s : goal.returns-then-s
returns-then-s c =
    let a = c.args in
    let h : length a.doc.now ≤ cap = omega (arith, (goal.at.returns-then-s c).Start) in
    rw (ending_break a.s c.if-s.true) (stored_append (a.s.segment ∷ []) (10 ∷ []) h c.put_byte-a.ensures c.put_byte.ensures)

pub returns : goal.returns
returns c =
    rw (ending_none c.args.s c.if-s.false) c.put_byte-a.ensures
