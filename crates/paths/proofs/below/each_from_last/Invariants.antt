use Rattle.std.proofs.Common.{ℕ, ◌≡◌, ◌<◌, ◌≤◌, Bool, true}
use Rattle.nest.specs.Seek.{AnswersAs}
use Rattle.paths.proofs.below.each_from_last.Given as goal

abbrev pub invariant-loop-k : goal.invariant-loop-k
invariant-loop-k g l = (p : ℕ → Bool) → AnswersAs (goal.F-post g l.passes) p l.n → (i : ℕ) → l.k ≤ i → i < l.n → p i ≡ true
