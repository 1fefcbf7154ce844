use Prim.Native.Nat.{◌≤◌}
use Rattle.tables.specs.Index.{DataLists}
use Rattle.tables.proofs.fill.tables_into.Given as goal

abbrev pub invariant-loop-t : goal.invariant-loop-t
invariant-loop-t l = DataLists l.s.bytes.now l.s.end l.initial.p l.t l.p l.initial.index l.index × (l.t ≤ l.n)
