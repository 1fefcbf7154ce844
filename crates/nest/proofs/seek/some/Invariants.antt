use Rattle.std.proofs.Common.{ℕ, ◌≡◌, Bool}
use Rattle.nest.specs.Lists.{some_of}
use Rattle.nest.specs.UpTo.{up_to}
use Rattle.nest.specs.Seek.{AnswersAs}
use Rattle.nest.proofs.seek.some.Given as goal

abbrev pub invariant-loop-k : goal.invariant-loop-k
invariant-loop-k g l = (p : ℕ → Bool) → AnswersAs (goal.F-post g l.passes) p l.n → some_of p (up_to 0 l.n) ≡ some_of p (up_to l.k l.n)
