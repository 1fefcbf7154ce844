use Rattle.std.proofs.Common.{◌≡◌, ◌+◌, ◌-◌, ◌≤◌}
use lib.Seq.{sets}
use Rattle.texts.specs.Digits.{down}
use Rattle.texts.proofs.Text.with_places.Given as goal

abbrev pub invariant-loop-i : goal.invariant-loop-i
invariant-loop-i l = (l.low ≤ l.i) × ((l.i ≤ l.top) × ((l.len + (l.i - l.low) ≡ l.initial.len + (l.top - l.low)) × (sets l.initial.bytes l.initial.len (down l.places l.low (l.top - l.low)) ≡ sets l.bytes l.len (down l.places l.low (l.i - l.low)))))
