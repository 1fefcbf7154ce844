use Rattle.std.proofs.Common.{◌-◌, ℕ, ◌≤◌, Bool}
use Rattle.nest.specs.Seek.{AnswersAs, Turns}
use Rattle.nest.proofs.Seeking.{Halving}
use Rattle.nest.proofs.seek.halve.Given as goal

abbrev pub invariant-loop-from : goal.invariant-loop-from
invariant-loop-from g l = (l.low ≤ l.from) × (l.from ≤ l.to) × (l.to ≤ l.high) × ((p : ℕ → Bool) → AnswersAs (goal.F-post g l.passes) p l.high → Turns p l.high → Halving p l.low l.high l.from l.to)

abbrev pub decreases-loop-from : goal.decreases-loop-from
decreases-loop-from g l = l.to - l.from
