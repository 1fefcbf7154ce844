-- Nest's numbers in the array, one law for each way that code takes.
use Prim.Native.Nat.{ℕ, zero, suc, ◌+◌, ◌-◌, ◌*◌}
use mathlib.Core.Path.{◌≡◌, refl, sym, ap, ◌∙◌}
use mathlib.Core.Bool.{true, false}
use mathlib.Core.List.{List}
use native.Mathlib.Numerals.{sub-one}
use native.Mathlib.Omega.{arith}
use lib.ListN.{get_or}
use lib.Dec.{eqb}
use borrow.Author.Tests.{eq-eqb, ne_eqb}
use Rattle.std.specs.Prelude.{Some, None}
use Rattle.nest.specs.Found.{found_by, row_place, nest_at, row_above, held_at, hooked_at}

pub nest_first : (nest : List ℕ) (base r : ℕ) → nest_at nest base r 0 ≡ get_or nest ((base + r) * 3) 0
nest_first nest base r = let q : (base + r) * 3 + 0 ≡ (base + r) * 3 = omega arith in rw q

pub place_none : (n : ℕ) → n ≡ 0 → found_by (row_place n) ≡ None
place_none n e = rw e

pub place_some : (n : ℕ) → (n ≡ 0 → ⊥) → found_by (row_place n) ≡ Some (record { 0 = n - 1 })
place_some zero d = absurd (d refl)
place_some (suc n) d = rw sub-one

pub above_none : (nest : List ℕ) (base r : ℕ) → nest_at nest base r 0 ≡ 0 → row_above nest base r ≡ None
unfolding row_above
above_none nest base r e = place_none (nest_at nest base r 0) e

pub above_row : (nest : List ℕ) (base r p : ℕ) → p ≡ nest_at nest base r 0 → (p ≡ 0 → ⊥) → row_above nest base r ≡ Some (record { 0 = p - 1 })
unfolding row_above
above_row nest base r p e d = ap (λ n. found_by (row_place n)) (sym e) ∙ place_some p d

pub held_yes : (nest : List ℕ) (base p r : ℕ) → nest_at nest base r 0 ≡ p + 1 → held_at nest base p r ≡ true
unfolding held_at
held_yes nest base p r e = eq-eqb (nest_at nest base r 0) (p + 1) e

pub held_no : (nest : List ℕ) (base p r : ℕ) → (nest_at nest base r 0 ≡ p + 1 → ⊥) → held_at nest base p r ≡ false
unfolding held_at
held_no nest base p r d = ne_eqb (nest_at nest base r 0) (p + 1) d

pub hooked_there : (nest : List ℕ) (base l p r : ℕ) → held_at nest base p r ≡ true → eqb (get_or nest ((base + r) * 3 + 1) 0) l ≡ hooked_at nest base l p r
unfolding hooked_at
hooked_there nest base l p r e = rw e

pub hooked_no : (nest : List ℕ) (base l p r : ℕ) → held_at nest base p r ≡ false → hooked_at nest base l p r ≡ false
unfolding hooked_at
hooked_no nest base l p r e = rw e
