-- What stands at a place, read there: the mark of a case, and values of the plan.
use Prim.Native.Nat.{ℕ}
use mathlib.Core.Path.{◌≡◌, refl, sym, ◌∙◌}
use mathlib.Core.List.{List}
use mathlib.Core.Bool.{Bool, false}
use native.Mathlib.Omega.{arith}
use Rattle.codec.specs.Codec.{le_c}
use Rattle.codec.specs.Forms.{bytes_c}
use Rattle.codec.specs.Skip.{skip, tag_at}
use Rattle.codec.proofs.Field.{is_in}
use Rattle.codec.proofs.Ways.{tag_read, tag_past, tag_within}
use Rattle.format.specs.Plan.{from_column, from_group, from_code, value_c}
use Rattle.format.proofs.Fields.{value_tag, is_from_code}
use Rattle.says.specs.Says.{Says}
use Rattle.codes.specs.declared.codes.Marks.{Marks}
use Rattle.codes.specs.Codes.{marked, marked_value}

-- t is the mark of the case at a place
module _ (b : List ℕ) (e at t : ℕ) (m : Marks) (h : t ≡ tag_at b at e) where
  pub code_there : (p : ℕ) (r : Bool) → t ≡ 2 → p ≡ skip (le_c 1) b at e → Says bytes_c b e p (marked m) r → Says value_c b e at (marked_value m) r
  code_there p r i j s (from_column x) u = absurd (omega (arith, value_tag b e at (from_column x) u, tag_read b at e t h 2 i (omega arith)))
  code_there p r i j s (from_group x) u = absurd (omega (arith, value_tag b e at (from_group x) u, tag_read b at e t h 2 i (omega arith)))
  code_there p r i j s (from_code x) u = s x (rw (tag_past b at e t h 2 i (omega arith) p j) (is_from_code b e at x u))

  pub code_not : (t ≡ 2 → ⊥) → Says value_c b e at (marked_value m) false
  code_not i (from_column x) u = refl
  code_not i (from_group x) u = refl
  code_not i (from_code x) u = absurd (i (sym (tag_within b at e t h (is_in bytes_c b e _ _ (is_from_code b e at x u))) ∙ value_tag b e at (from_code x) u))
