use Prim.Native.Nat.{◌≤◌}
use native.Mathlib.Omega.{arith}
use Rattle.due.proofs.Loops.{due_not, due_always, due_filled}
use Rattle.due.proofs.due_row.Goals as goal

pub returns-then-n-t : goal.returns-then-n-t
returns-then-n-t c = let h : c.data_count-n.result ≤ c.args.t.0 = omega (arith, c.if-n-t.true) in due_not _ _ _ _ _ _ c.data_count-n.ensures h

pub returns-then-forced : goal.returns-then-forced
returns-then-forced c = due_always _ _ _ _ _ _ c.data_count-n.ensures _ c.if-n-t.false c.forced-forced.ensures c.if-forced.true

pub returns : goal.returns
returns c = due_filled _ _ _ _ _ _ c.data_count-n.ensures _ c.if-n-t.false c.forced-forced.ensures _ c.if-forced.false c.filled.ensures
