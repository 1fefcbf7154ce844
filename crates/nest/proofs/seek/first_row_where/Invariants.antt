use Rattle.std.proofs.Common.{ℕ, ◌≡◌, Bool}
use Rattle.nest.specs.Lists.{keep, first}
use Rattle.nest.specs.UpTo.{up_to}
use Rattle.nest.specs.Seek.{AnswersAs}
use Rattle.nest.proofs.seek.first_row_where.Given as goal

abbrev pub invariant-loop-k : goal.invariant-loop-k
invariant-loop-k g l = (p : ℕ → Bool) → AnswersAs (goal.F-post g l.passes) p l.rows → first (keep p (up_to l.from l.rows)) ≡ first (keep p (up_to l.k l.rows))
