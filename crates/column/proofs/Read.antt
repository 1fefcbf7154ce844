-- What each answer of a reader stands for.
use Prim.Native.Nat.{ℕ, ◌+◌, ◌*◌, ◌≤◌}
use mathlib.Core.Bool.{false}
use mathlib.Core.Path.{◌≡◌, refl, sym, ap, ◌∙◌}
use native.Mathlib.Omega.{arith}
use mathlib.Core.List.{List}
use Rattle.std.specs.Prelude.{Option, None, Some}
use lib.ListN.{length, take, drop}
use Rattle.column.specs.Cell.{Cell, or_null, is_null, int64_of}
use Rattle.column.specs.Answers.{cell_at, Within, Reads}
use Rattle.column.specs.declared.Cell.{Cell as Read}
use Rattle.column.specs.declared.Cell.TheVariants.{None as NoAnswer, Null, Bytes, Int, Wide, Days, Seconds}

module _ (b : List ℕ) {x : Option Cell} where
  pub reads_none : None ≡ x → Reads b NoAnswer x
  unfolding cell_at Within
  reads_none h = record { cell = h; within = tt }

  pub reads_null : Some Cell.null ≡ x → Reads b Null x
  unfolding cell_at Within
  reads_null h = record { cell = h; within = tt }

  pub reads_bytes : (s n : ℕ) → s + n ≤ length b → Some (Cell.binary (take n (drop s b))) ≡ x → Reads b (Bytes s n) x
  unfolding cell_at Within
  reads_bytes s n q h = record { cell = h; within = q }

  pub reads_int : (n : ℕ) → Some (Cell.int64 n) ≡ x → Reads b (Int n) x
  unfolding cell_at Within
  reads_int n h = record { cell = h; within = tt }

  pub reads_wide : (low high scale : ℕ) → Some (Cell.decimal (low + 18446744073709551616 * high) scale) ≡ x → Reads b (Wide low high scale) x
  unfolding cell_at Within
  reads_wide low high scale h = record { cell = h; within = tt }

  pub reads_days : (n : ℕ) → Some (Cell.date32 n) ≡ x → Reads b (Days n) x
  unfolding cell_at Within
  reads_days n h = record { cell = h; within = tt }

  pub reads_seconds : (n : ℕ) → Some (Cell.time32 n) ≡ x → Reads b (Seconds n) x
  unfolding cell_at Within
  reads_seconds n h = record { cell = h; within = tt }

-- ---- no answer reads as null
pub null_for_none : (b : List ℕ) (x : Option Cell) → Reads b NoAnswer x → Reads b Null (Some (or_null x))
unfolding cell_at
null_for_none b x h = reads_null b (ap (λ (y : Option Cell). Some (or_null y)) h.cell)

pub kept : (b : List ℕ) (r : Read) (y : Cell) → cell_at b r ≡ Some y → (x : Option Cell) → Reads b r x → Reads b r (Some (or_null x))
kept b r y q None h = absurd (let i : cell_at b r ≡ None = h.cell in let z : ◌≡◌ {A = ℕ} 0 1 = cc in omega arith)
kept b r y q (Some x) h = h

pub kept_there : (b : List ℕ) (r : Read) → (r ≡ NoAnswer → ⊥) → (x : Option Cell) → Reads b r x → Reads b r (Some (or_null x))
unfolding cell_at
kept_there b NoAnswer n = absurd (n refl)
kept_there b Null n = kept b _ _ refl
kept_there b (Bytes s m) n = kept b _ _ refl
kept_there b (Int x) n = kept b _ _ refl
kept_there b (Wide low high scale) n = kept b _ _ refl
kept_there b (Days x) n = kept b _ _ refl
kept_there b (Seconds x) n = kept b _ _ refl

pub not_null : (b : List ℕ) (r : Read) → (r ≡ NoAnswer → ⊥) → (r ≡ Null → ⊥) → false ≡ is_null (or_null (cell_at b r))
unfolding cell_at
not_null b NoAnswer n m = absurd (n refl)
not_null b Null n m = absurd (m refl)
not_null b (Bytes s k) n m = refl
not_null b (Int x) n m = refl
not_null b (Wide low high scale) n m = refl
not_null b (Days x) n m = refl
not_null b (Seconds x) n m = refl

pub no_int : (b : List ℕ) (r : Read) → ((x : ℕ) → r ≡ Int x → ⊥) → None ≡ int64_of (cell_at b r)
unfolding cell_at
no_int b NoAnswer n = refl
no_int b Null n = refl
no_int b (Bytes s k) n = refl
no_int b (Int x) n = absurd (n x refl)
no_int b (Wide low high scale) n = refl
no_int b (Days x) n = refl
no_int b (Seconds x) n = refl

pub within_bytes : (b : List ℕ) (r : Read) (s n : ℕ) → Within b r → r ≡ Bytes s n → s + n ≤ length b
unfolding Within
within_bytes b r s n w h = rw h at w

-- ---- what a reader's caller learns from the answer's case
module _ (b : List ℕ) (r : Read) (x : Option Cell) (h : Reads b r x) where
  pub told_none : r ≡ NoAnswer → x ≡ None
  unfolding cell_at
  told_none q = sym h.cell ∙ ap (cell_at b) q

  pub told_null : r ≡ Null → x ≡ Some Cell.null
  unfolding cell_at
  told_null q = sym h.cell ∙ ap (cell_at b) q

  pub told_bytes : (s n : ℕ) → r ≡ Bytes s n → (x ≡ Some (Cell.binary (take n (drop s b)))) × (s + n ≤ length b)
  unfolding cell_at
  told_bytes s n q = (sym h.cell ∙ ap (cell_at b) q, within_bytes b r s n h.within q)

  pub told_int : (n : ℕ) → r ≡ Int n → x ≡ Some (Cell.int64 n)
  unfolding cell_at
  told_int n q = sym h.cell ∙ ap (cell_at b) q

  pub told_wide : (low high scale : ℕ) → r ≡ Wide low high scale → x ≡ Some (Cell.decimal (low + 18446744073709551616 * high) scale)
  unfolding cell_at
  told_wide low high scale q = sym h.cell ∙ ap (cell_at b) q

  pub told_days : (n : ℕ) → r ≡ Days n → x ≡ Some (Cell.date32 n)
  unfolding cell_at
  told_days n q = sym h.cell ∙ ap (cell_at b) q

  pub told_seconds : (n : ℕ) → r ≡ Seconds n → x ≡ Some (Cell.time32 n)
  unfolding cell_at
  told_seconds n q = sym h.cell ∙ ap (cell_at b) q
