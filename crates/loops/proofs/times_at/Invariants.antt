use Rattle.std.specs.Prelude.{◌-◌, ◌≤◌}
use Rattle.loops.proofs.Tangle.{Counting}
use Rattle.loops.proofs.times_at.Given as goal

abbrev pub invariant-loop-i : goal.invariant-loop-i
invariant-loop-i l = (l.t ≤ l._i) × Counting l.s.bytes.now l.s.end l.at l.x l.t (l.n - l._i) l.p
