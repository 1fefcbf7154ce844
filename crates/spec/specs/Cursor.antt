-- Not to be believed: words of inner contracts, on which no contract of what users call rests.
-- The elements of a segment, one after the other.
use Rattle.std.specs.Prelude.{ℕ, ◌<◌, ◌≡◌, Bool, true, false, length, get_or, Option, None, Some}
use mathlib.Core.List.{List, [], ◌∷◌}
use Rattle.codec.specs.Codec.{◌⊗◌}
use Rattle.codec.specs.Skip.{Is, steps}
use Rattle.codec.specs.Forms.{num_c}
use Rattle.format.specs.Spec.{Kind, kind_an, kind_id, kind_n, kind_r, kind_dt, kind_tm, ElementDef, element_c, SegmentDef}
use Rattle.format.specs.Sections.{plan_start}
use Rattle.spec.specs.Answers.{HoldsText}
use Rattle.spec.specs.declared.ids.Elements.{Elements}
use Rattle.spec.specs.declared.ids.Element.{Element}

-- these elements stand one after the other from where the cursor is
pub record Entries (b : List ℕ) (c : Elements) (xs : SegmentDef) : Type 0 where
  pub counted : c.left ≡ length xs
  pub item : (i : ℕ) (d : ℕ × ElementDef) → i < length xs → Is (num_c ⊗ element_c) b (plan_start b) (steps (num_c ⊗ element_c) b (plan_start b) i c.at) (get_or xs i d)

-- an element is left
pub record EntryAt (b : List ℕ) (c : Elements) : Type 0 where
  pub entry : ℕ × ElementDef
  pub rest : SegmentDef
  pub entries : Entries b c (entry ∷ rest)

-- kind N alone is padded with zeros
abbrev pub is_numeric : Kind → Bool
is_numeric kind_an = false
is_numeric kind_id = false
is_numeric (kind_n n) = true
is_numeric (kind_r n) = false
is_numeric kind_dt = false
is_numeric kind_tm = false

abbrev pub first_of : List (List ℕ) → Option (List ℕ)
first_of [] = None
first_of (x ∷ xs) = Some x

-- what an element's answer says
pub record ElementSays (b : List ℕ) (r : Element) (x : ℕ × ElementDef) : Type 0 where
  pub number : r.number ≡ x.0
  pub numeric : r.numeric ≡ is_numeric x.1.kind
  pub min : r.min ≡ x.1.min
  pub max : r.max ≡ x.1.max
  pub code : HoldsText b r.code (first_of x.1.codes)
