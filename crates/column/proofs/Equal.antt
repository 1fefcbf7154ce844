-- Whether two answers are equal, a law for each way through the readers.
use Prim.Native.Nat.{ℕ, zero, suc, ◌+◌, ◌*◌, ◌-◌, ◌≤◌, ◌<◌}
use mathlib.Core.Logic.{◌⊎◌, inl, inr}
use mathlib.Core.Path.{◌≡◌, refl, sym, ap, subst, ◌∙◌}
use mathlib.Core.List.{List, [], ◌∷◌}
use mathlib.Core.Bool.{Bool, true, false, ◌&&◌}
use Rattle.std.specs.Cmp.Lexicographic.{pointwise}
use native.Mathlib.Omega.{arith}
use Rattle.std.specs.Prelude.{Option, None, Some}
use lib.ListN.{take, drop}
use lib.Dec.{leb, eqb}
use borrow.Author.Tests.{eq-eqb, ne_eqb, leb-false}
use Rattle.column.specs.Cell.{Cell, both, kind_of, same_bytes, same_cell, same_answer}
use Rattle.column.specs.Answers.{Reads, Compares, cell_at}
use Rattle.column.specs.declared.Cell.{Cell as Read}
use Rattle.column.specs.declared.Cell.TheVariants.{None as NoAnswer, Null, Bytes, Int, Wide, Days, Seconds}

-- ---- answers of two kinds
abbrev answer_kind : Option Cell → ℕ
answer_kind None = 0
answer_kind (Some c) = suc (kind_of c)

-- b is no answer of the kind k
abbrev Not : ℕ → Read → Type 0
Not zero b = b ≡ NoAnswer → ⊥
Not (suc zero) b = b ≡ Null → ⊥
Not (suc (suc zero)) b = (s n : ℕ) → b ≡ Bytes s n → ⊥
Not (suc (suc (suc zero))) b = (x : ℕ) → b ≡ Int x → ⊥
Not (suc (suc (suc (suc zero)))) b = (x y z : ℕ) → b ≡ Wide x y z → ⊥
Not (suc (suc (suc (suc (suc zero))))) b = (x : ℕ) → b ≡ Days x → ⊥
Not (suc (suc (suc (suc (suc (suc k)))))) b = (x : ℕ) → b ≡ Seconds x → ⊥

of_its_kind : (l : List ℕ) (b : Read) → Not (answer_kind (cell_at l b)) b → ⊥
unfolding cell_at
of_its_kind l NoAnswer h = h refl
of_its_kind l Null h = h refl
of_its_kind l (Bytes s n) h = h s n refl
of_its_kind l (Int x) h = h x refl
of_its_kind l (Wide low high scale) h = h low high scale refl
of_its_kind l (Days x) h = h x refl
of_its_kind l (Seconds x) h = h x refl

kinds_differ : (x y : Option Cell) → (answer_kind x ≡ answer_kind y → ⊥) → false ≡ same_answer x y
unfolding same_answer same_cell
kinds_differ None None h = absurd (h refl)
kinds_differ None (Some b) h = refl
kinds_differ (Some a) None h = refl
kinds_differ (Some a) (Some b) h = let q : kind_of a ≡ kind_of b → ⊥ = λ k. h (ap suc k) in sym (simp (ne_eqb _ _ q))

-- the answer b is not of the kind of x
pub other_kind : (x : Option Cell) (b : Read) → Not (answer_kind x) b → (l : List ℕ) → false ≡ same_answer x (cell_at l b)
other_kind x b n l = kinds_differ x (cell_at l b) (λ h. of_its_kind l b (subst (λ (k : ℕ). Not k b) h n))

-- ---- one number
both_true : (t : Bool) → t ≡ both t true
both_true true = refl
both_true false = refl

pub int_equal : (x y : ℕ) (b : Read) → b ≡ Int y → (l : List ℕ) → eqb x y ≡ same_answer (Some (Cell.int64 x)) (cell_at l b)
unfolding cell_at same_answer same_cell same_bytes
int_equal x y b h l = rw h (both_true (eqb x y))

pub days_equal : (x y : ℕ) (b : Read) → b ≡ Days y → (l : List ℕ) → eqb x y ≡ same_answer (Some (Cell.date32 x)) (cell_at l b)
unfolding cell_at same_answer same_cell same_bytes
days_equal x y b h l = rw h (both_true (eqb x y))

pub seconds_equal : (x y : ℕ) (b : Read) → b ≡ Seconds y → (l : List ℕ) → eqb x y ≡ same_answer (Some (Cell.time32 x)) (cell_at l b)
unfolding cell_at same_answer same_cell same_bytes
seconds_equal x y b h l = rw h (both_true (eqb x y))

-- ---- two halves and a scale
module _ (low high scale x y z : ℕ) (p : low < 18446744073709551616) (q : x < 18446744073709551616) where
  pub halves_differ : (v : Bool) → v ≡ false → (low ≡ x × (high ≡ y → ⊥)) ⊎ (low ≡ x → ⊥) → v ≡ same_answer (Some (Cell.decimal (low + 18446744073709551616 * high) scale)) (Some (Cell.decimal (x + 18446744073709551616 * y) z))
  unfolding same_answer same_cell same_bytes
  halves_differ v f d =
      let n : low + 18446744073709551616 * high ≡ x + 18446744073709551616 * y → ⊥ = λ k. elim d [ inl e ↦ e.1 (omega arith) | inr e ↦ e (omega arith) ] in
      f ∙ sym (rw (ne_eqb _ _ n))

  pub scales : low ≡ x → high ≡ y → eqb scale z ≡ same_answer (Some (Cell.decimal (low + 18446744073709551616 * high) scale)) (Some (Cell.decimal (x + 18446744073709551616 * y) z))
  unfolding same_answer same_cell same_bytes
  scales e f = rw (e, f, eq-eqb (x + 18446744073709551616 * y) (x + 18446744073709551616 * y) refl) (both_true (eqb scale z))

-- ---- bytes
bytes_pointwise : (l m : List ℕ) → pointwise eqb l m ≡ same_bytes l m
unfolding same_bytes
bytes_pointwise [] [] = refl
bytes_pointwise [] (y ∷ m) = refl
bytes_pointwise (x ∷ l) [] = refl
bytes_pointwise (x ∷ l) (y ∷ m) = go (eqb x y) (bytes_pointwise l m)
  where
    go : (t : Bool) {r q : Bool} → r ≡ q → (t && r) ≡ both t q
    go true i = i
    go false i = refl

-- the test of two slices is that of what they hold
pub stretches : (b : List ℕ) (s n t m : ℕ) (v : Bool) → v ≡ pointwise eqb (take (s + n - s) (drop s b)) (take (t + m - t) (drop t b)) → v ≡ same_bytes (take n (drop s b)) (take m (drop t b))
stretches b s n t m v h =
    let i : s + n - s ≡ n = omega arith in
    let j : t + m - t ≡ m = omega arith in
    (rw (i, j) at h) ∙ bytes_pointwise _ _

pub stretch_equal : (b : List ℕ) (s n t m : ℕ) (r : Read) → r ≡ Bytes t m → (v : Bool) → v ≡ same_bytes (take n (drop s b)) (take m (drop t b)) → v ≡ same_answer (Some (Cell.binary (take n (drop s b)))) (cell_at b r)
unfolding cell_at same_answer same_cell
stretch_equal b s n t m r h v i = rw h i

-- ---- whatever two answers stand for
pub of_answers : (v : Bool) (b : List ℕ) (a c : Read) → v ≡ same_answer (cell_at b a) (cell_at b c) → (x y : Option Cell) → Reads b a x → Reads b c y → v ≡ same_answer x y
of_answers v b a c h x y i j = h ∙ rw (i.cell, j.cell)

-- the kinds decide
pub on_any : (v : Bool) (b : List ℕ) (a c : Read) → ((l : List ℕ) → v ≡ same_answer (cell_at l a) (cell_at l c)) → Compares b a c v
on_any v b a c h = record { read = of_answers v b a c (h b); apart = λ u l. h l }

-- a is a stretch
pub on_bytes : (v : Bool) (b : List ℕ) (a c : Read) (s n : ℕ) → a ≡ Bytes s n → ((x y : Option Cell) → Reads b a x → Reads b c y → v ≡ same_answer x y) → Compares b a c v
on_bytes v b a c s n e h = record { read = h; apart = λ u l. absurd (u s n e) }

pub outside : {A : Type 0} (s n k : ℕ) (v : Bool) → v ≡ leb (s + n) k → v ≡ false → s + n ≤ k → A
outside s n k v h i l = absurd (omega (arith, leb-false (s + n) k (sym h ∙ i)))
