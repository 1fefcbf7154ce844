-- The array that nest leaves, read as code reads it, says where each row hangs.
use Prim.Native.Nat.{ℕ, ◌+◌, ◌*◌, ◌<◌}
use mathlib.Core.Path.{◌≡◌, sym, ap, ap₂, ◌∙◌}
use mathlib.Core.Bool.{true, false, ◌&&◌}
use native.Mathlib.Omega.{arith}
use native.Mathlib.Numerals.{add-one}
use Rattle.std.specs.Prelude.{Some}
use lib.ListN.{length, get_or}
use lib.Dec.{eqb}
use Rattle.nest.specs.Lists.{keep, first, is}
use Rattle.nest.specs.UpTo.{up_to}
use Rattle.nest.specs.Outline.{Outline, table_parent, row_count, repeated}
use Rattle.nest.specs.Nest.{referred, hook, hooked, nest_record, nest_array}
use Rattle.nest.specs.Found.{nest_at, held_at, hooked_at}
use Rattle.nest.proofs.Scan.{keep_alike}
use Rattle.nest.proofs.NestLaws.{rows_before, array_at, holds, takes}

module _ (j : Outline) (t : ℕ) (there : t < length j.row_counts) where
  -- number i of row r
  pub number_at : (r i : ℕ) → r < row_count j t → i < 3 → nest_at (nest_array j) (rows_before j t) r i ≡ get_or (nest_record j t r) i 0
  number_at r i h k = let q : (rows_before j t + r) * 3 + i ≡ 3 * (rows_before j t + r) + i = omega arith in ap (λ a. get_or (nest_array j) a 0) q ∙ array_at j t r i there h k

  pub held_in_array : (r u p : ℕ) → r < row_count j t → repeated j t ≡ false → table_parent j t ≡ Some u → held_at (nest_array j) (rows_before j t) p r ≡ is (referred j t r u) p
  unfolding held_at
  held_in_array r u p h f q = ap₂ eqb (number_at r 0 h (omega arith)) (add-one p) ∙ sym (holds j t r u p f q)

  pub hooked_in_array : (r l p : ℕ) → r < row_count j t → repeated j t ≡ true → hooked_at (nest_array j) (rows_before j t) l p r ≡ hooked (hook j t r) l p
  unfolding hooked_at held_at
  hooked_in_array r l p h f = ap₂ ◌&&◌ (ap₂ eqb (number_at r 0 h (omega arith)) (add-one p)) (ap (λ n. eqb n l) (number_at r 1 h (omega arith))) ∙ sym (takes j t r l p f)

  -- what `next_hooked` finds
  pub next_hooked : (k l p : ℕ) → repeated j t ≡ true
      → first (keep (hooked_at (nest_array j) (rows_before j t) l p) (up_to k (row_count j t))) ≡ first (keep (λ r. hooked (hook j t r) l p) (up_to k (row_count j t)))
  next_hooked k l p f = ap first (keep_alike _ _ k (row_count j t) (λ r h. hooked_in_array r l p h f))
