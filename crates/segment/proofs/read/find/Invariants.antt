use Prim.Native.Nat.{◌+◌, ◌≤◌, max}
use mathlib.Core.Path.{◌≡◌}
use lib.ListN.{length, drop}
use Rattle.segment.specs.Reader.{run}
use Rattle.segment.proofs.read.find.Given as goal

abbrev pub invariant-loop-i : goal.invariant-loop-i
invariant-loop-i l = record { within : l.i ≤ max l.at (length l.document); nothing : l.at + run l.b (drop l.at l.document) ≡ l.i + run l.b (drop l.i l.document) }
