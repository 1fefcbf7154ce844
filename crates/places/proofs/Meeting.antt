-- Where rows of two planned elements meet: the arithmetic on element, step and reach is right.
use Prim.Native.Nat.{ℕ, suc, ◌+◌, ◌-◌, ◌*◌, ◌/◌, ◌%◌, ◌≤◌, ◌<◌}
use mathlib.Core.Path.{◌≡◌, refl, sym, ap, ◌∙◌}
use mathlib.Core.Bool.{Bool, true, false}
use native.Mathlib.Omega.{arith}
use native.Mathlib.Nat.{add-mul, mul-zero, zero-mul, div-add-mod', mul-le-mul_right}
use lib.Arith.{digits_div, digits_mod}
use lib.Dec.{leb, ltb, eqb}
use borrow.Author.Tests.{eq-eqb, eqb-true, eqb-false, lt-ltb, ltb-true, ltb-false, leb-true, leb-false}
use Rattle.codec.specs.Codec.{pick}
use Rattle.places.specs.declared.spots.Spot.{Spot}
use Rattle.places.specs.Spots.{hits, meet}
use Rattle.codes.proofs.Laws.{no_way}

-- row k of the one and row n of the other stand at one element
pub record Meets (step r x s y : ℕ) : Type 0 where
  pub k : ℕ
  pub n : ℕ
  pub k_in : k < r
  pub n_in : n < s
  pub same : x + k * step ≡ y + n * step

pub meets_back : (step r x s y : ℕ) → Meets step r x s y → Meets step s y r x
meets_back step r x s y m = record { k = m.n; n = m.k; k_in = m.n_in; n_in = m.k_in; same = sym m.same }

-- a step that is not 0 tells rows apart
pub rows_apart : (step x k n : ℕ) → 0 < step → x + k * step ≡ x + n * step → k ≡ n
rows_apart step x k n h i = go (ltb k n) (ltb n k) refl refl
  where
    less : (a b : ℕ) → a < b → a * step ≡ b * step → ⊥
    less a b q j =
        let u : suc a * step ≤ b * step = mul-le-mul_right step q in
        let v : (a + 1) * step ≡ a * step + 1 * step = add-mul a 1 step in
        let w : suc a * step ≡ (a + 1) * step = ap (λ (z : ℕ). z * step) (omega arith) in
        let o : 1 * step ≡ step = omega arith in
        omega arith

    go : (t u : Bool) → ltb k n ≡ t → ltb n k ≡ u → k ≡ n
    go true u p q = absurd (less k n (ltb-true _ _ p) (omega arith))
    go false true p q = absurd (less n k (ltb-true _ _ q) (omega arith))
    go false false p q = omega (arith, ltb-false k n p, ltb-false n k q)

module _ (step r s x y : ℕ) (low : x ≤ y) (one : 1 ≤ r) (other : 1 ≤ s) where
  pub hit_meets : hits step r x y ≡ true → Meets step r x s y
  unfolding hits
  hit_meets h = go (eqb step 0) refl h
    where
      walk : (t : Bool) → eqb ((y - x) % step) 0 ≡ t → pick t (ltb ((y - x) / step) r) false ≡ true → Meets step r x s y
      walk true p q =
          let a : (y - x) % step ≡ 0 = eqb-true _ _ p in
          let d : (y - x) / step * step + (y - x) % step ≡ y - x = div-add-mod' (y - x) step in
          let z : 0 * step ≡ 0 = zero-mul step in
          record { k = (y - x) / step; n = 0; k_in = ltb-true _ _ q; n_in = other; same = omega arith }
      walk false p q = no_way (sym q)

      go : (t : Bool) → eqb step 0 ≡ t → pick t (eqb x y) (pick (eqb ((y - x) % step) 0) (ltb ((y - x) / step) r) false) ≡ true → Meets step r x s y
      go true p q = let e : x ≡ y = eqb-true _ _ q in record { k = 0; n = 0; k_in = one; n_in = other; same = rw e }
      go false p q = walk (eqb ((y - x) % step) 0) refl q

  pub miss_meets : hits step r x y ≡ false → Meets step r x s y → ⊥
  unfolding hits
  miss_meets h m = go (eqb step 0) refl h
    where
      k : ℕ
      k = m.k

      n : ℕ
      n = m.n

      -- the lower one's row is not in front of the higher one's
      far : 0 < step → n ≤ k
      far q = near (leb n k) refl
        where
          near : (t : Bool) → leb n k ≡ t → n ≤ k
          near true w = leb-true _ _ w
          near false w =
              let l : k < n = leb-false _ _ w in
              let u : suc k * step ≤ n * step = mul-le-mul_right step l in
              let v : (k + 1) * step ≡ k * step + 1 * step = add-mul k 1 step in
              let z : suc k * step ≡ (k + 1) * step = ap (λ (i : ℕ). i * step) (omega arith) in
              let o : 1 * step ≡ step = omega arith in
              absurd (omega (arith, m.same))

      go : (t : Bool) → eqb step 0 ≡ t → pick t (eqb x y) (pick (eqb ((y - x) % step) 0) (ltb ((y - x) / step) r) false) ≡ false → ⊥
      go true p q =
          let a : step ≡ 0 = eqb-true _ _ p in
          let u : k * step ≡ 0 = ap (λ (i : ℕ). k * i) a ∙ mul-zero k in
          let v : n * step ≡ 0 = ap (λ (i : ℕ). n * i) a ∙ mul-zero n in
          no_way (sym (eq-eqb x y (omega (arith, m.same))) ∙ q)
      go false p q =
          let a : 0 < step = omega (arith, eqb-false step 0 p) in
          let f : n ≤ k = far a in
          let g : (k - n + n) * step ≡ (k - n) * step + n * step = add-mul (k - n) n step in
          let e : (k - n + n) * step ≡ k * step = ap (λ (i : ℕ). i * step) (omega arith) in
          let d : y - x ≡ (k - n) * step + 0 = omega (arith, m.same) in
          let u : (y - x) % step ≡ 0 = rw d (digits_mod (k - n) a) in
          let v : (y - x) / step ≡ k - n = rw d (digits_div (k - n) a) in
          let w : (y - x) / step < r = omega (arith, m.k_in) in
          no_way (sym (ap (λ (i : Bool). pick i (ltb ((y - x) / step) r) false) (eq-eqb _ _ u) ∙ lt-ltb _ _ w) ∙ q)

module _ (step : ℕ) (x y : Spot) (one : 1 ≤ x.reach) (other : 1 ≤ y.reach) where
  pub meet_yes : meet step x y ≡ true → Meets step x.reach x.element y.reach y.element
  unfolding meet
  meet_yes h = go (leb x.element y.element) refl h
    where
      go : (t : Bool) → leb x.element y.element ≡ t → pick t (hits step x.reach x.element y.element) (hits step y.reach y.element x.element) ≡ true → Meets step x.reach x.element y.reach y.element
      go true p q = hit_meets step x.reach y.reach x.element y.element (leb-true _ _ p) one other q
      go false p q =
          let l : y.element < x.element = leb-false _ _ p in
          meets_back _ _ _ _ _ (hit_meets step y.reach x.reach y.element x.element (omega arith) other one q)

  pub meet_no : meet step x y ≡ false → Meets step x.reach x.element y.reach y.element → ⊥
  unfolding meet
  meet_no h m = go (leb x.element y.element) refl h
    where
      go : (t : Bool) → leb x.element y.element ≡ t → pick t (hits step x.reach x.element y.element) (hits step y.reach y.element x.element) ≡ false → ⊥
      go true p q = miss_meets step x.reach y.reach x.element y.element (leb-true _ _ p) one other q m
      go false p q =
          let l : y.element < x.element = leb-false _ _ p in
          miss_meets step y.reach x.reach y.element x.element (omega arith) other one q (meets_back _ _ _ _ _ m)
