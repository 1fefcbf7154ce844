-- What `baktuven_plan` gives: 0 for a complete plan, 16 for one that is not, 1 to 5 for a refused job (docs/RULES.md, "A complete plan" and "Answers").
use Rattle.std.specs.Prelude.{ℕ, ◌≡◌, Bool, List, Result, Ok, Err, if◌then◌else◌}
use Rattle.refusal.specs.declared.Refusal.{Refusal}
use Rattle.refusal.specs.Answer.{number}
use Rattle.judge.specs.Judged.{Judged}

abbrev pub plan_number : Result Bool Refusal → ℕ
plan_number (Ok complete) = if complete then 0 else 16
plan_number (Err r) = number r

-- it is the number of what the plan check answers
pub record PlanTold (b : List ℕ) (r : ℕ) : Type 0 where
  pub answer : Result Bool Refusal
  pub judged : Judged b answer
  pub number : r ≡ plan_number answer
