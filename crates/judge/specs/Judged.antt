-- What the plan check answers (docs/RULES.md, "A complete plan"): refusals 1 to 5 as `check` gives them, and otherwise yes exactly where the plan is
-- complete.
use Rattle.std.specs.Prelude.{ℕ, ◌≡◌, Bool, true, false, List, Result, Ok}
use Rattle.format.specs.Sections.{job_of}
use Rattle.format.specs.Refusal.{refusal_of}
use Rattle.complete.specs.Complete.{CompletePlan}
use Rattle.refusal.specs.declared.Refusal.{Refusal}
use Rattle.refusal.specs.Answer.{number_of}

pub record Judged (b : List ℕ) (a : Result Bool Refusal) : Type 0 where
  pub number : number_of a ≡ refusal_of b
  pub yes : a ≡ Ok true → CompletePlan (job_of b)
  pub no : a ≡ Ok false → CompletePlan (job_of b) → ⊥
