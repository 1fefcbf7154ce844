use Rattle.std.proofs.Common.{ℕ, ◌≡◌, ◌<◌, Bool, true}
use Rattle.nest.specs.Seek.{AnswersAs}
use Rattle.paths.proofs.below.each.Given as goal

abbrev pub invariant-loop-k : goal.invariant-loop-k
invariant-loop-k g l = (p : ℕ → Bool) → AnswersAs (goal.F-post g l.passes) p l.n → (i : ℕ) → i < l.k → p i ≡ true
