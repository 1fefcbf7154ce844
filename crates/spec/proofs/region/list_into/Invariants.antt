use Rattle.spec.proofs.Storing.{Items}
use Prim.Native.Nat.{◌≤◌}
use Rattle.spec.proofs.region.list_into.Given as goal

abbrev pub invariant-loop-i : goal.invariant-loop-i
invariant-loop-i g l = Items g.F.Form.codec l.s.bytes.now l.s.end l.initial.p l.k l.i l.p l.initial.index l.index × (l.i ≤ l.n)
