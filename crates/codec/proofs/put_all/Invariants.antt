use Rattle.std.specs.Prelude.{◌≡◌, ◌+◌, ◌≤◌, length, map, drop}
use Rattle.codec.specs.Rows.{stored, small}
use Rattle.codec.proofs.put_all.Given as goal

abbrev pub invariant-loop-i : goal.invariant-loop-i
invariant-loop-i l = (stored l.index (l.k + l.i) (map small (drop l.i l.ps)) ≡ stored l.initial.index l.k (map small l.ps)) × (l.i ≤ length l.ps)
