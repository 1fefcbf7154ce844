use Rattle.codec.specs.Forms.{bytes_c}
use Rattle.codec.specs.Skip.{steps}
use Prim.Native.Nat.{◌+◌, ◌-◌}
use mathlib.Core.Path.{◌≡◌}
use Rattle.spec.proofs.read.string_at.Given as goal

abbrev pub invariant-loop-i : goal.invariant-loop-i
invariant-loop-i l = steps bytes_c l.s.bytes.now l.s.end l.k (l.at + 4) ≡ steps bytes_c l.s.bytes.now l.s.end (l.k - l._i) l.p
