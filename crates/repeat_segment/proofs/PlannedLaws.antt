-- Laws of the definitions of specs/Planned, and words that only proofs use.
use Rattle.std.specs.Prelude.{ℕ, ◌+◌, ◌≤◌, ◌≡◌, List, get_or, drop}
use Rattle.format.specs.NoElement.{no_element_plan}
use Rattle.plan.specs.declared.answers.ElementPlan.{ElementPlan as ElementRead}
use Rattle.plan.specs.Answers.{element_of}
use Rattle.plan.specs.Elements.{Elements}
use Rattle.repeat_segment.specs.declared.planned.Planned.{Planned}
use Rattle.repeat_segment.specs.Planned.{plans_of}

-- from the place `at` on stand the elements from number i on
pub record Along (b : List ℕ) (s : Planned) (at i : ℕ) : Type 0 where
  pub elements : Elements b at (drop i (plans_of b s))

-- what was read is element i
pub record Read (b : List ℕ) (s : Planned) (i : ℕ) (r : ElementRead) : Type 0 where
  pub plan : element_of b r ≡ get_or (plans_of b s) i no_element_plan
  pub low : r.element ≤ 255
  pub along : Along b s r.next (i + 1)
