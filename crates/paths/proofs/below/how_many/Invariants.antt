use Rattle.std.proofs.Common.{ℕ, ◌≡◌, ◌≤◌, Bool}
use Rattle.nest.specs.Seek.{AnswersAs}
use Rattle.walk.specs.Check.{how_many}
use Rattle.paths.proofs.below.how_many.Given as goal

abbrev pub invariant-loop-k : goal.invariant-loop-k
invariant-loop-k g l = (l.seen ≤ l.k) × ((p : ℕ → Bool) → AnswersAs (goal.F-post g l.passes) p l.n → l.seen ≡ how_many l.k p)
