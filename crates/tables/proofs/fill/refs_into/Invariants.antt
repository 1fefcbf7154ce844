use Prim.Native.Nat.{◌≤◌}
use Rattle.tables.proofs.Filled.{Refs}
use Rattle.tables.proofs.fill.refs_into.Given as goal

abbrev pub invariant-loop-t : goal.invariant-loop-t
invariant-loop-t l = Refs l.s.bytes.now l.s.end l.t l.initial.index l.index × (l.t ≤ l.n)
