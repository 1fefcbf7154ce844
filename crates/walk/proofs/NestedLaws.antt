-- Nest's array as it is lent says where each row hangs.
use Prim.Native.Nat.{ℕ, ◌+◌, ◌*◌, ◌≤◌, ◌<◌}
use mathlib.Core.Path.{◌≡◌, ap, ap₂, ◌∙◌}
use mathlib.Core.Bool.{true, false, ◌&&◌}
use mathlib.Core.List.{List}
use native.Mathlib.Omega.{arith}
use Rattle.std.specs.Prelude.{Some}
use Rattle.std.proofs.lemmas.Option.{none-some}
use lib.ListN.{length, get_or}
use lib.Dec.{eqb}
use Rattle.format.specs.Sections.{job_of}
use Rattle.nest.specs.Lists.{is}
use Rattle.nest.specs.Outline.{Outline, table_parent, row_count, repeated}
use Rattle.nest.specs.Nest.{referred, hook, hooked, nest_record, nest_array}
use Rattle.nest.specs.Found.{nest_at, held_at, hooked_at, ArrayIs}
use Rattle.nest.specs.OutlineAt.{outline_at}
use Rattle.nest.specs.Rising.{above_of, Climbs, rises}
use Rattle.nest.proofs.NestLaws.{rows_before}
use Rattle.nest.proofs.Stored.{place_in, number_in, array_rows}
use Rattle.nest.proofs.RisingRows.{never_falls}
use Rattle.nest.proofs.ArrayLaws.{held_in_array, hooked_in_array}
use Rattle.walk.specs.Nested.{Nested, Sound}
use Rattle.walk.specs.Instances.{outside}

module _ {b idx n : List ℕ} (N : Nested b idx n) where
  abbrev o : Outline
  o = outline_at b

  pub array_held : ArrayIs o n
  array_held = record { room = omega (arith, array_rows (job_of b), N.room); numbers = N.numbers }

  -- number i of row r
  pub lent_number : (t r i : ℕ) → r < row_count o t → i < 3 → nest_at n (rows_before o t) r i ≡ get_or (nest_record o t r) i 0
  lent_number = number_in o n array_held

  -- where a table is flagged, its rows climb
  pub lent_climbs : (t rows : ℕ) → rises n t ≡ true → rows ≤ row_count o t → Climbs n (rows_before o t) rows
  unfolding above_of
  lent_climbs t rows e h = record {
    climb = λ i k p q. rw (lent_number t i 0 (omega arith) (omega arith), lent_number t k 0 (omega arith) (omega arith)) (never_falls o t (N.rising t e) i k p (omega arith));
  }

  same_at_lem : (t r i : ℕ) → r < row_count o t → i < 3 → nest_at n (rows_before o t) r i ≡ nest_at (nest_array o) (rows_before o t) r i
  same_at_lem t r i h k = N.numbers ((rows_before o t + r) * 3 + i) (place_in o t r i h k)

  pub lent_held : (t r u p : ℕ) → t < length o.row_counts → r < row_count o t → repeated o t ≡ false → table_parent o t ≡ Some u
      → held_at n (rows_before o t) p r ≡ is (referred o t r u) p
  unfolding held_at
  lent_held t r u p s h f q = ap (λ (x : ℕ). eqb x (p + 1)) (same_at_lem t r 0 h (omega arith)) ∙ held_in_array o t s r u p h f q

  pub lent_hooked : (t r l p : ℕ) → t < length o.row_counts → r < row_count o t → repeated o t ≡ true
      → hooked_at n (rows_before o t) l p r ≡ hooked (hook o t r) l p
  unfolding hooked_at held_at
  lent_hooked t r l p s h f =
      ap₂ ◌&&◌ (ap (λ (x : ℕ). eqb x (p + 1)) (same_at_lem t r 0 h (omega arith))) (ap (λ (x : ℕ). eqb x l) (same_at_lem t r 1 h (omega arith))) ∙ hooked_in_array o t s r l p h f

-- ---- contexts whose rows are there

pub sound_outside : (j : Outline) → Sound j outside
sound_outside j = record { there = λ t r e. absurd (none-some r e); begun = λ p r e q d. absurd (none-some p e) }
