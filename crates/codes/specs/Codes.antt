-- Not to be believed: words of inner contracts, on which no contract of what users call rests.
-- Codes, as tests (docs/RULES.md, "Places"): in plan and spec they hold no element, component or segment separator, nor does the version's first value.
use Rattle.std.specs.Prelude.{ℕ, List, [], ◌∷◌, ◌≡◌, Bool, true, false, eqb}
use Rattle.codec.specs.Codec.{pick}
use Rattle.codec.specs.Limits.{any, any_of}
use Rattle.format.specs.Plan.{Value, from_column, from_group, from_code, ElementPlan, SegmentPlan, LoopPlan}
use Rattle.format.specs.Spec.{ComponentDef, ElementDef, SegmentDef, Version, Spec}
use Rattle.format.specs.Words.{if_some}
use Rattle.format.specs.Job.{Job}
use Rattle.codes.specs.declared.codes.Marks.{Marks}

unfoldable pub mark : Marks → ℕ → Bool
mark m x = any (eqb x m.element ∷ eqb x m.component ∷ eqb x m.segment ∷ [])

unfoldable pub marked : Marks → List ℕ → Bool
marked m t = any_of (mark m) t

abbrev pub marked_value : Marks → Value → Bool
marked_value m (from_column c) = false
marked_value m (from_group c) = false
marked_value m (from_code t) = marked m t

unfoldable pub marked_element_plan : Marks → ElementPlan → Bool
marked_element_plan m e = marked_value m e.value

unfoldable pub marked_segment_plan : Marks → SegmentPlan → Bool
marked_segment_plan m p = any_of (marked_element_plan m) p.elements

unfoldable pub marked_loop_plan : Marks → LoopPlan → Bool
marked_loop_plan m p = any_of (marked_segment_plan m) p.segments

unfoldable pub marked_component : Marks → ℕ × ComponentDef → Bool
marked_component m x = any_of (marked m) x.1.codes

unfoldable pub marked_element : Marks → ℕ × ElementDef → Bool
marked_element m x = any (any_of (marked m) x.1.codes ∷ any_of (marked_component m) x.1.components ∷ [])

unfoldable pub marked_segment : Marks → List ℕ × SegmentDef → Bool
marked_segment m x = any_of (marked_element m) x.1

unfoldable pub marked_version : Marks → Version → Bool
marked_version m v = marked m v.first

unfoldable pub marked_spec : Marks → Spec → Bool
marked_spec m s = pick (any_of (marked_segment m) s.segments) true (if_some (marked_version m) s.version)

-- the separators of a job
pub record MarksOf (j : Job) (m : Marks) : Type 0 where
  pub element : m.element ≡ j.envelope.element
  pub component : m.component ≡ j.envelope.component
  pub segment : m.segment ≡ j.envelope.segment
