use Prim.Native.Nat.{◌-◌}
use mathlib.Core.Path.{◌≡◌}
use mathlib.Core.List.{[]}
use lib.ListN.{get_or}
use Rattle.emit.specs.Table.{table, searched}
use Rattle.emit.proofs.envelope.search.Given as goal

abbrev pub invariant-loop-i : goal.invariant-loop-i
invariant-loop-i l = searched (get_or table l.depth []) 9 0 l.position ≡ searched (get_or table l.depth []) (9 - l.i) l.i l.position
