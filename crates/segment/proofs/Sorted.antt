-- A repeat segment's parts are sorted: their places rise, and each place keeps its text.
use Prim.Native.Nat.{ℕ, ◌≤◌}
use mathlib.Core.Path.{◌≡◌, refl, sym, ap, ◌∙◌}
use mathlib.Core.Logic.{◌≢◌}
use mathlib.Core.Bool.{Bool, true, false, false≢true}
use mathlib.Core.List.{List, [], ◌∷◌}
use native.Mathlib.Omega.{arith}
use Rattle.std.specs.Prelude.{Option, None, Some}
use lib.Dec.{eqb, leb, ltb}
use borrow.Author.Tests.{eq-eqb, eqb-true, le-leb, ltb-true, ltb-false}
use Rattle.segment.specs.declared.Separators.{Separators}
use Rattle.segment.specs.Grammar.{Segment, All, Without, Plain}
use Rattle.segment.specs.Parts.{Part, pick, rank, not_behind, insert, sorted}
use Rattle.segment.specs.ReadParts.{is_at, text_of, RisesFrom, Free, ReadAs}

-- ---- the same parts

insert_all : (P : Part → Type 0) (x : Part) (ys : List Part) → P x → All P ys → All P (insert x ys)
unfolding insert
insert_all P x [] h k = (h, tt)
insert_all P x (y ∷ ys) h k = go (not_behind x y) (insert_all P x ys h k.1)
  where
    go : (b : Bool) → All P (insert x ys) → All P (pick b (x ∷ y ∷ ys) (y ∷ insert x ys))
    go true ih = (h, k)
    go false ih = (k.0, ih)

pub sorted_all : (P : Part → Type 0) (xs : List Part) → All P xs → All P (sorted xs)
unfolding sorted
sorted_all P [] h = tt
sorted_all P (x ∷ xs) h = insert_all P x (sorted xs) h.0 (sorted_all P xs h.1)

-- ---- their places rise

in_order : (x y : Part) → not_behind x y ≡ true → x.element ≤ y.element
in_order x y h = go (eqb x.element y.element) refl h
  where
    go : (b : Bool) → eqb x.element y.element ≡ b → pick b (leb (rank x.component) (rank y.component)) (ltb x.element y.element) ≡ true
        → x.element ≤ y.element
    go true q k = omega (arith, eqb-true x.element y.element q)
    go false q k = omega (arith, ltb-true x.element y.element k)

out_of_order_lem : (x y : Part) → not_behind x y ≡ false → y.element ≤ x.element
out_of_order_lem x y h = go (eqb x.element y.element) refl h
  where
    go : (b : Bool) → eqb x.element y.element ≡ b → pick b (leb (rank x.component) (rank y.component)) (ltb x.element y.element) ≡ false
        → y.element ≤ x.element
    go true q k = omega (arith, eqb-true x.element y.element q)
    go false q k = omega (arith, ltb-false x.element y.element k)

insert_rises : (p : ℕ) (x : Part) (ys : List Part) → p ≤ x.element → RisesFrom p ys → RisesFrom p (insert x ys)
unfolding insert
insert_rises p x [] h r = (h, tt)
insert_rises p x (y ∷ ys) h r = go (not_behind x y) refl (insert_rises y.element x ys)
  where
    go : (b : Bool) → not_behind x y ≡ b → (y.element ≤ x.element → RisesFrom y.element ys → RisesFrom y.element (insert x ys))
        → RisesFrom p (pick b (x ∷ y ∷ ys) (y ∷ insert x ys))
    go true q ih = (h, (in_order x y q, r.1))
    go false q ih = (r.0, ih (out_of_order_lem x y q) r.1)

pub sorted_rises : (p : ℕ) (xs : List Part) → All (λ x. p ≤ x.element) xs → RisesFrom p (sorted xs)
unfolding sorted
sorted_rises p [] h = tt
sorted_rises p (x ∷ xs) h = insert_rises p x (sorted xs) h.0 (sorted_rises p xs h.1)

-- ---- each place keeps its text

at_place : (p : ℕ) (c : Option ℕ) (z : Part) → is_at p c z ≡ true → (z.element ≡ p) × (rank z.component ≡ rank c)
at_place p c z e = go (eqb z.element p) refl e
  where
    go : (b : Bool) → eqb z.element p ≡ b → pick b (eqb (rank z.component) (rank c)) false ≡ true → (z.element ≡ p) × (rank z.component ≡ rank c)
    go true q k = (eqb-true _ _ q, eqb-true _ _ k)
    go false q k = absurd (false≢true k)

-- two parts at one place stay in order
one_place : (p : ℕ) (c : Option ℕ) (x y : Part) → is_at p c x ≡ true → is_at p c y ≡ true → not_behind x y ≡ true
one_place p c x y h k =
    let a = at_place p c x h in
    let b = at_place p c y k in
    rw (eq-eqb x.element y.element (a.0 ∙ sym b.0)) (le-leb (rank x.component) (rank y.component) (omega (arith, a.1, b.1)))

insert_text : (p : ℕ) (c : Option ℕ) (x : Part) (ys : List Part) → text_of (insert x ys) p c ≡ text_of (x ∷ ys) p c
unfolding insert text_of
insert_text p c x [] = refl
insert_text p c x (y ∷ ys) = go (not_behind x y) refl (insert_text p c x ys)
  where
    swap : (a b : Bool) (t u r : List ℕ) → is_at p c x ≡ a → is_at p c y ≡ b → not_behind x y ≡ false → pick b u (pick a t r) ≡ pick a t (pick b u r)
    swap true true t u r h k n = absurd (false≢true (sym n ∙ one_place p c x y h k))
    swap true false t u r h k n = refl
    swap false true t u r h k n = refl
    swap false false t u r h k n = refl

    go : (b : Bool) → not_behind x y ≡ b → text_of (insert x ys) p c ≡ text_of (x ∷ ys) p c
        → text_of (pick b (x ∷ y ∷ ys) (y ∷ insert x ys)) p c ≡ text_of (x ∷ y ∷ ys) p c
    go true q ih = refl
    go false q ih = ap (pick (is_at p c y) y.text) ih ∙ swap (is_at p c x) (is_at p c y) x.text y.text (text_of ys p c) refl refl q

pub sorted_text : (p : ℕ) (c : Option ℕ) (xs : List Part) → text_of (sorted xs) p c ≡ text_of xs p c
unfolding sorted text_of
sorted_text p c [] = refl
sorted_text p c (x ∷ xs) = insert_text p c x (sorted xs) ∙ ap (pick (is_at p c x) x.text) (sorted_text p c xs)

-- ---- what is due, its parts sorted

module _ (s : Separators) (id : List ℕ) (parts : List Part) where
  pub sorted_free : id ≢ [] → Plain s id → All (λ x. 1 ≤ x.element) parts → All (λ x. Plain s x.text) parts
      → All (λ x. x.component ≢ None → Without s.component x.text) parts → Free s (record { id = id; parts = sorted parts })
  sorted_free n i e t w =
      record { named = n; id_plain = i; rises = sorted_rises 1 parts e; plain = sorted_all _ parts t; whole = sorted_all _ parts w }

  -- a segment joined of sorted parts is read as the parts
  pub sorted_read_as : (x : Segment) → ReadAs s (record { id = id; parts = sorted parts }) x → ReadAs s (record { id = id; parts = parts }) x
  sorted_read_as x r =
      record {
        id = r.id;
        plain_at = λ p h k. r.plain_at p h (sorted_all _ parts k) ∙ sorted_text p None parts;
        component_at = λ p h k c l. r.component_at p h (sorted_all _ parts k) c l ∙ sorted_text p (Some c) parts;
      }
