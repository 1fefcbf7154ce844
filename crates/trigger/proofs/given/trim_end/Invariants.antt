use Prim.Native.Nat.{◌+◌, ◌≤◌}
use mathlib.Core.Path.{◌≡◌}
use lib.ListN.{length}
use Rattle.lent.specs.Window.{stretch}
use Rattle.emit.specs.Envelope.{trim_end}
use Rattle.trigger.proofs.given.trim_end.Given as goal

abbrev pub invariant-loop-n : goal.invariant-loop-n
invariant-loop-n l = (l.start + l.n ≤ length l.job) × (trim_end (stretch l.job l.start l.initial.n) ≡ trim_end (stretch l.job l.start l.n))
