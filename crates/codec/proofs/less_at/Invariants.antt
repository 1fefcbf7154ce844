use Rattle.codec.specs.Strings.{less_at, less_from}
use Prim.Native.Nat.{◌+◌, ◌-◌}
use mathlib.Core.Path.{◌≡◌}
use Rattle.codec.proofs.less_at.Given as goal

abbrev pub invariant-loop-k : goal.invariant-loop-k
invariant-loop-k l = less_at l.b l.p l.q ≡ less_from l.b (l.n - l.k) (l.m - l.k) (l.p + 4 + l.k) (l.q + 4 + l.k)
