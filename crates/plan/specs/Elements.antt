-- Not to be believed: words of inner contracts, on which no contract of what users call rests.
-- Items that stand one after the other, as the planned elements of a segment do, and how to step through them.
use Prim.Native.Nat.{ℕ, ◌+◌, ◌≤◌}
use Rattle.std.specs.Prelude.{◌≡◌, length, get_or, drop}
use mathlib.Core.List.{List, [], ◌∷◌}
use Rattle.codec.specs.Codec.{Codec}
use Rattle.codec.specs.Skip.{skip, Is}
use Rattle.format.specs.Plan.{ElementPlan as ElementPlanIn, element_plan_c}
use Rattle.format.specs.NoElement.{no_element_plan}
use Rattle.format.specs.Sections.{layout_start}
use Rattle.plan.specs.declared.answers.ElementPlan.{ElementPlan}
use Rattle.plan.specs.Answers.{element_of, code_end}

-- from the place p on stand the items vs
unfoldable pub Run : {A : Type 0} → Codec A → List ℕ → ℕ → ℕ → List A → Type 0
Run C b e p [] = Unit
Run C b e p (v ∷ vs) = Is C b e p v × Run C b e (skip C b p e) vs

-- ---- the planned elements of a segment, from the place p on
abbrev pub Elements : List ℕ → ℕ → List ElementPlanIn → Type 0
Elements b p vs = Run element_plan_c b (layout_start b) p vs

-- what was read at the place of element k: that element, and the place from which on the rest stands
pub record ElementStep (b : List ℕ) (k : ℕ) (vs : List ElementPlanIn) (r : ElementPlan) : Type 0 where
  pub plan : element_of b r ≡ get_or vs k no_element_plan
  pub rest : Elements b r.next (drop (k + 1) vs)
  pub within : code_end r.value ≤ length b
