-- The sorting of a repeat segment's parts: it keeps what is first at each place and what is highest, and afterwards the places never fall.
use Prim.Native.Nat.{ℕ, ◌≤◌, ◌<◌, max}
use mathlib.Core.Path.{◌≡◌, refl, sym, ap, ◌∙◌}
use mathlib.Core.List.{List, [], ◌∷◌}
use mathlib.Core.Bool.{Bool, true, false, true≢false}
use native.Mathlib.Omega.{arith}
use Rattle.std.specs.Prelude.{Option, Some}
use lib.Dec.{eqb, ltb, leb}
use borrow.Author.Tests.{eqb-true, eqb-false, leb-true, leb-false, ltb-true, ltb-false}
use Rattle.segment.specs.Parts.{Part, pick, is_empty, rank, not_behind, insert, sorted, highest}
use Rattle.segment.specs.Calls.{stands_at, first_at}

-- ---- places in order

-- the place of x is not behind that of y
pub record Low (x y : Part) : Type 0 where
  pub elements : x.element ≤ y.element
  pub ranks : x.element ≡ y.element → rank x.component ≤ rank y.component

low_trans : {x y z : Part} → Low x y → Low y z → Low x z
low_trans {x} {y} {z} a b = record {
  elements = omega (arith, a.elements, b.elements);
  ranks = λ e. let f : x.element ≡ y.element = omega (arith, a.elements, b.elements) in
      let g : y.element ≡ z.element = omega (arith, a.elements, b.elements) in omega (arith, a.ranks f, b.ranks g);
}

pub behind_true : (x y : Part) → not_behind x y ≡ true → Low x y
behind_true x y h = go (eqb x.element y.element) refl h
  where
    go : (t : Bool) → eqb x.element y.element ≡ t → pick t (leb (rank x.component) (rank y.component)) (ltb x.element y.element) ≡ true → Low x y
    go true e k = let q : x.element ≡ y.element = eqb-true _ _ e in record { elements = omega arith; ranks = λ _. leb-true _ _ k }
    go false e k = let q : x.element < y.element = ltb-true _ _ k in record { elements = omega arith; ranks = λ f. absurd (eqb-false _ _ e f) }

-- otherwise y stands strictly in front of x
pub behind_false : (x y : Part) → not_behind x y ≡ false → Low y x × (x.element ≡ y.element → rank x.component ≡ rank y.component → ⊥)
behind_false x y h = go (eqb x.element y.element) refl h
  where
    go : (t : Bool) → eqb x.element y.element ≡ t → pick t (leb (rank x.component) (rank y.component)) (ltb x.element y.element) ≡ false
        → Low y x × (x.element ≡ y.element → rank x.component ≡ rank y.component → ⊥)
    go true e k =
        let q : x.element ≡ y.element = eqb-true _ _ e in
        let j : rank y.component < rank x.component = leb-false _ _ k in
        (record { elements = omega arith; ranks = λ _. omega arith }, λ _ f. omega arith)
    go false e k =
        let q : y.element ≤ x.element = ltb-false _ _ k in
        (record { elements = q; ranks = λ f. absurd (eqb-false _ _ e (sym f)) }, λ f _. eqb-false _ _ e f)

-- no part of a list is in front of x
abbrev pub AllLow : Part → List Part → Type 0
AllLow x [] = Unit {0}
AllLow x (y ∷ ys) = Low x y × AllLow x ys

-- the places never fall
abbrev pub InOrder : List Part → Type 0
InOrder [] = Unit {0}
InOrder (x ∷ xs) = AllLow x xs × InOrder xs

all_low : (x y : Part) (zs : List Part) → Low x y → AllLow y zs → AllLow x zs
all_low x y [] h a = tt
all_low x y (z ∷ zs) h a = (low_trans h a.0, all_low x y zs h a.1)

insert_low : (w x : Part) (ys : List Part) → Low w x → AllLow w ys → AllLow w (insert x ys)
unfolding insert
insert_low w x [] h a = (h, tt)
insert_low w x (y ∷ ys) h a = go (not_behind x y) (insert_low w x ys h a.1)
  where
    go : (t : Bool) → AllLow w (insert x ys) → AllLow w (pick t (x ∷ y ∷ ys) (y ∷ insert x ys))
    go true i = (h, a)
    go false i = (a.0, i)

insert_order : (x : Part) (ys : List Part) → InOrder ys → InOrder (insert x ys)
unfolding insert
insert_order x [] o = (tt, tt)
insert_order x (y ∷ ys) o = go (not_behind x y) refl (insert_order x ys o.1)
  where
    go : (t : Bool) → not_behind x y ≡ t → InOrder (insert x ys) → InOrder (pick t (x ∷ y ∷ ys) (y ∷ insert x ys))
    go true e i = let h : Low x y = behind_true x y e in ((h, all_low x y ys h o.0), o)
    go false e i = (insert_low y x ys (behind_false x y e).0 o.0, i)

pub sorted_order : (parts : List Part) → InOrder (sorted parts)
unfolding sorted
sorted_order [] = tt
sorted_order (x ∷ xs) = insert_order x (sorted xs) (sorted_order xs)

-- ---- what is first at a place, and what is highest

pub stands : (p r : ℕ) (x : Part) → stands_at p r x ≡ true → (x.element ≡ p) × (rank x.component ≡ r)
unfolding stands_at
stands p r x h = go (eqb x.element p) refl h
  where
    go : (t : Bool) → eqb x.element p ≡ t → pick t (eqb (rank x.component) r) false ≡ true → (x.element ≡ p) × (rank x.component ≡ r)
    go true e k = (eqb-true _ _ e, eqb-true _ _ k)
    go false e k = absurd (true≢false (sym k))

insert_first : (p r : ℕ) (x : Part) (ys : List Part) → first_at p r (insert x ys) ≡ first_at p r (x ∷ ys)
unfolding insert first_at
insert_first p r x [] = refl
insert_first p r x (y ∷ ys) = go (not_behind x y) refl (insert_first p r x ys)
  where
    apart : not_behind x y ≡ false → (t u : Bool) → stands_at p r x ≡ t → stands_at p r y ≡ u → (rest : Option (List ℕ))
        → pick u (Some y.text) (pick t (Some x.text) rest) ≡ pick t (Some x.text) (pick u (Some y.text) rest)
    apart e true true f g rest =
        let a : (x.element ≡ p) × (rank x.component ≡ r) = stands p r x f in
        let b : (y.element ≡ p) × (rank y.component ≡ r) = stands p r y g in
        absurd ((behind_false x y e).1 (a.0 ∙ sym b.0) (a.1 ∙ sym b.1))
    apart e true false f g rest = refl
    apart e false true f g rest = refl
    apart e false false f g rest = refl

    go : (t : Bool) → not_behind x y ≡ t → first_at p r (insert x ys) ≡ pick (stands_at p r x) (Some x.text) (first_at p r ys)
        → first_at p r (pick t (x ∷ y ∷ ys) (y ∷ insert x ys)) ≡ pick (stands_at p r x) (Some x.text) (pick (stands_at p r y) (Some y.text) (first_at p r ys))
    go true e ih = refl
    go false e ih = ap (λ (o : Option (List ℕ)). pick (stands_at p r y) (Some y.text) o) ih
        ∙ apart e (stands_at p r x) (stands_at p r y) refl refl (first_at p r ys)

-- of parts at one place the first stays the first
pub sorted_first : (p r : ℕ) (parts : List Part) → first_at p r (sorted parts) ≡ first_at p r parts
unfolding sorted first_at
sorted_first p r [] = refl
sorted_first p r (x ∷ xs) = insert_first p r x (sorted xs) ∙ ap (λ (o : Option (List ℕ)). pick (stands_at p r x) (Some x.text) o) (sorted_first p r xs)

insert_highest : (f : Part → ℕ) (x : Part) (ys : List Part) → highest f (insert x ys) ≡ highest f (x ∷ ys)
unfolding insert highest
insert_highest f x [] = refl
insert_highest f x (y ∷ ys) = go (not_behind x y) (insert_highest f x ys)
  where
    go : (t : Bool) → highest f (insert x ys) ≡ max (pick (is_empty x.text) 0 (f x)) (highest f ys)
        → highest f (pick t (x ∷ y ∷ ys) (y ∷ insert x ys)) ≡ max (pick (is_empty x.text) 0 (f x)) (max (pick (is_empty y.text) 0 (f y)) (highest f ys))
    go true ih = refl
    go false ih = omega arith

pub sorted_highest : (f : Part → ℕ) (parts : List Part) → highest f (sorted parts) ≡ highest f parts
unfolding sorted highest
sorted_highest f [] = refl
sorted_highest f (x ∷ xs) = insert_highest f x (sorted xs) ∙ ap (λ (n : ℕ). max (pick (is_empty x.text) 0 (f x)) n) (sorted_highest f xs)
