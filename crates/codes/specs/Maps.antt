-- Not to be believed: words of inner contracts, on which no contract of what users call rests.
-- The spec's maps, as tests (docs/RULES.md, "Places"): places start at 1.
use Rattle.std.specs.Prelude.{ℕ, List, [], ◌∷◌, Bool}
use Rattle.codec.specs.Limits.{any, any_of}
use Rattle.format.specs.Spec.{ComponentDef, ElementDef, SegmentDef}
use Rattle.codes.specs.Rules.{low}

unfoldable pub low_component : ℕ × ComponentDef → Bool
low_component x = low x.0

unfoldable pub low_element : ℕ × ElementDef → Bool
low_element x = any (low x.0 ∷ any_of low_component x.1.components ∷ [])

unfoldable pub low_segment : List ℕ × SegmentDef → Bool
low_segment x = any_of low_element x.1
