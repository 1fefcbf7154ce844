-- Laws of decimal digits.
use Rattle.std.proofs.Common.{◌≡◌, ℕ, zero, suc, ◌+◌, ◌-◌, ◌*◌, ◌/◌, ◌%◌, ◌^◌, ◌<◌, ◌≤◌, max, Bool, true, false, cond, ltb, List, [], ◌∷◌, ◌++◌, length, sym, refl, ap, ◌∙◌, subst, ap₂, append-nil, le_trans, lt_of_lt_of_le, add-zero, div-lt_iff_lt-mul, pow-suc, div-one, arith, lit<, pow-add, ltb-false, ltb-true, lt-ltb, ne_eqb}
use mathlib.Core.Bool.{false≢true}
use native.Mathlib.Nat.{one-le-pow, pow-le-pow_right, div-div-eq-div-mul, div-eq_of_lt}
use Rattle.texts.specs.Number.{digit, figures, first_from, size, count_text, before, trimmed, pointed, fixed_text}

-- powers of ten
pub ten_pos : (k : ℕ) → 0 < 10 ^ k
ten_pos k = one-le-pow k 10 (lit< tt)

pub ten_mono : {i j : ℕ} → i ≤ j → 10 ^ i ≤ 10 ^ j
ten_mono h = pow-le-pow_right {n = 10} (lit< tt) h

pub ten_next : (p k : ℕ) → p ≡ 10 ^ k → p * 10 ≡ 10 ^ (k + 1)
ten_next p k e = ap (λ (x : ℕ). x * 10) e ∙ sym (pow-add 10 k 1)

-- a power at most a number that is below another power is lower
pub ten_below : (n i j : ℕ) → 10 ^ i ≤ n → n < 10 ^ j → i < j
ten_below n i j a b = go (ltb i j) refl
  where
    go : (t : Bool) → ltb i j ≡ t → i < j
    go true e = ltb-true i j e
    go false e = let m : 10 ^ j ≤ 10 ^ i = ten_mono (ltb-false i j e) in omega arith

-- the places from another on
pub shifted : (n i j : ℕ) → n / 10 ^ i / 10 ^ j ≡ n / 10 ^ (i + j)
shifted n i j = div-div-eq-div-mul n (10 ^ i) (10 ^ j) ∙ ap (λ (p : ℕ). n / p) (sym (pow-add 10 i j))

pub next_place : (n i : ℕ) → n / 10 ^ i / 10 ≡ n / 10 ^ (i + 1)
next_place n i = shifted n i 1

pub digit_shifted : (n i j : ℕ) → digit (n / 10 ^ i) j ≡ digit n (i + j)
digit_shifted n i j = ap (λ (q : ℕ). q % 10) (shifted n i j)

-- above the highest place of a number all are 0
pub above : (n k i : ℕ) → n < 10 ^ k → k ≤ i → digit n i ≡ 0
above n k i h l = let e : n / 10 ^ i ≡ 0 = div-eq_of_lt (lt_of_lt_of_le h (ten_mono l)) in rw e

pub below_power : (n i j : ℕ) → n < 10 ^ (i + j) → n / 10 ^ i < 10 ^ j
below_power n i j h = (div-lt_iff_lt-mul (ten_pos i)).1 (subst (λ (p : ℕ). n < p) (ap (λ (k : ℕ). 10 ^ k) (omega arith) ∙ pow-add 10 j i) h)

pub below_power_back : (n i j : ℕ) → n / 10 ^ i < 10 ^ j → n < 10 ^ (i + j)
below_power_back n i j h = subst (λ (p : ℕ). n < p) (sym (ap (λ (k : ℕ). 10 ^ k) (omega arith) ∙ pow-add 10 j i)) ((div-lt_iff_lt-mul (ten_pos i)).0 h)

-- a choice has what both of its sides have
chosen : (P : ℕ → Type 0) (t : Bool) (a b : ℕ) → (t ≡ true → P a) → (t ≡ false → P b) → P (cond t a b)
chosen P true a b y n = y refl
chosen P false a b y n = n refl

later : (p : ℕ → Bool) (k j : ℕ) → k ≤ j → p k ≡ false → p j ≡ true → k + 1 ≤ j
later p k j h n y = go (ltb k j) refl
  where
    go : (t : Bool) → ltb k j ≡ t → k + 1 ≤ j
    go true e = let l : k < j = ltb-true k j e in omega arith
    go false e =
        let l : j ≤ k = ltb-false k j e in
        let s : k ≡ j = omega arith in
        absurd (false≢true (sym n ∙ ap p s ∙ y))

-- the first number that passes
first_from_lem : (p : ℕ → Bool) (f k : ℕ) → k ≤ first_from p f k
unfolding first_from
first_from_lem p zero k = omega arith
first_from_lem p (suc f) k = chosen (λ x. k ≤ x) (p k) k _ (λ e. omega arith) (λ e. le_trans (omega arith) (first_from_lem p f (k + 1)))

first_least : (p : ℕ → Bool) (f k j : ℕ) → k ≤ j → p j ≡ true → first_from p f k ≤ j
unfolding first_from
first_least p zero k j h y = h
first_least p (suc f) k j h y = chosen (λ x. x ≤ j) (p k) k _ (λ e. h) (λ e. first_least p f (k + 1) j (later p k j h e y) y)

first_passes : (p : ℕ → Bool) (f k j : ℕ) → k ≤ j → j ≤ k + f → p j ≡ true → p (first_from p f k) ≡ true
unfolding first_from
first_passes p zero k j h m y = let e : k ≡ j = omega arith in rw e y
first_passes p (suc f) k j h m y = chosen (λ x. p x ≡ true) (p k) k _ (λ e. e) (λ e. first_passes p f (k + 1) j (later p k j h e y) (omega arith) y)

number_below : (n : ℕ) → n < 10 ^ n
number_below zero = lit< tt
number_below (suc n) = let h : n < 10 ^ n = number_below n in rw (pow-suc) (omega arith)

-- a number is below the power of ten of its size, and its size is the least from 1 on
pub size_pos : (n : ℕ) → 1 ≤ size n
unfolding size
size_pos n = first_from_lem (λ k. ltb n (10 ^ k)) n 1

pub size_above : (n : ℕ) → n < 10 ^ size n
unfolding size
size_above n =
    ltb-true _ _ (first_passes (λ k. ltb n (10 ^ k)) n 1 (1 + n) (omega arith) (omega arith)
    (lt-ltb _ _ (lt_of_lt_of_le (number_below n) (ten_mono (omega arith)))))

pub size_least : (n j : ℕ) → 1 ≤ j → n < 10 ^ j → size n ≤ j
unfolding size
size_least n j h l = first_least (λ k. ltb n (10 ^ k)) n 1 j h (lt-ltb _ _ l)

pub size_is : (n k : ℕ) → 1 ≤ k → n < 10 ^ k → ((j : ℕ) → 1 ≤ j → n < 10 ^ j → k ≤ j) → size n ≡ k
size_is n k one h least =
    let a : size n ≤ k = size_least n k one h in
    let b : k ≤ size n = least (size n) (size_pos n) (size_above n) in
    omega arith

-- the digits before the point, of a number that has `count` of them
pub size_whole : (n scale count : ℕ) → n < 10 ^ count → ((k : ℕ) → n < 10 ^ k → count ≤ k) → size (n / 10 ^ scale) ≡ max count (scale + 1) - scale
size_whole n scale count h least =
    let low : count ≤ scale + size (n / 10 ^ scale) = least _ (below_power_back n scale _ (size_above (n / 10 ^ scale))) in
    let one : 1 ≤ size (n / 10 ^ scale) = size_pos (n / 10 ^ scale) in
    let top : size (n / 10 ^ scale) ≤ max count (scale + 1) - scale =
    size_least (n / 10 ^ scale) (max count (scale + 1) - scale) (omega arith)
    (below_power n scale _ (lt_of_lt_of_le h (ten_mono (omega arith)))) in
    omega arith

-- digits in a row
pub figures_length : (k n : ℕ) → length (figures k n) ≡ k
unfolding figures
figures_length zero n = refl
figures_length (suc k) n = ap suc (figures_length k n)

-- the last of them
pub figures_last : (k n : ℕ) → figures (suc k) n ≡ figures k (n / 10) ++ ((48 + n % 10) ∷ [])
unfolding figures
figures_last zero n = ap (λ (m : ℕ). (48 + m % 10) ∷ []) (div-one n)
figures_last (suc k) n =
    let e : suc k ≡ 1 + k = omega arith in
    ap₂ (λ (d : ℕ) (ds : List ℕ). (48 + d) ∷ ds) (ap (λ (i : ℕ). digit n i) e ∙ sym (digit_shifted n 1 k)) (figures_last k n)

-- without trailing zeros
pub trim_none : (k n : ℕ) → ((i : ℕ) → i < k → digit n i ≡ 0) → trimmed (figures k n) ≡ []
unfolding figures trimmed
trim_none zero n h = refl
trim_none (suc k) n h = rw (trim_none k n (λ i l. h i (omega arith)), h k (omega arith))

filled_alone : (d : ℕ) → (d ≡ 0 → ⊥) → before (48 + d) [] ≡ (48 + d) ∷ []
filled_alone d h = simp (ne_eqb (48 + d) 48 (λ e. h (omega arith)))

trim_from : (m r n : ℕ) → ((i : ℕ) → i < r → digit n i ≡ 0) → (digit n r ≡ 0 → ⊥) → trimmed (figures (suc (r + m)) n) ≡ figures (suc m) (n / 10 ^ r)
unfolding figures trimmed
trim_from zero r n h f =
    let z : digit (n / 10 ^ r) 0 ≡ digit n r = digit_shifted n r 0 ∙ ap (λ (i : ℕ). digit n i) (add-zero r) in
    rw (add-zero, trim_none r n h, z) (filled_alone (digit n r) f)
trim_from (suc m) r n h f =
    let e : r + suc m ≡ suc (r + m) = omega arith in
    let before-it : trimmed (figures (r + suc m) n) ≡ figures (suc m) (n / 10 ^ r) = ap (λ (x : ℕ). trimmed (figures x n)) e ∙ trim_from m r n h f in
    ap (λ (ds : List ℕ). before (48 + digit n (r + suc m)) ds) before-it
    ∙ ap (λ (d : ℕ). (48 + d) ∷ figures (suc m) (n / 10 ^ r)) (sym (digit_shifted n r (suc m)))

pub trim_some : (k r n : ℕ) → r < k → ((i : ℕ) → i < r → digit n i ≡ 0) → (digit n r ≡ 0 → ⊥) → trimmed (figures k n) ≡ figures (k - r) (n / 10 ^ r)
trim_some k r n l h f =
    let a : k ≡ suc (r + (k - r - 1)) = omega arith in
    let b : k - r ≡ suc (k - r - 1) = omega arith in
    ap (λ (x : ℕ). trimmed (figures x n)) a ∙ trim_from (k - r - 1) r n h f ∙ ap (λ (x : ℕ). figures x (n / 10 ^ r)) (sym b)

pointed_some : (k n : ℕ) → 0 < k → pointed (figures k n) ≡ 46 ∷ figures k n
unfolding figures
pointed_some zero n h = absurd (omega arith)
pointed_some (suc k) n h = refl

-- a number in fixed point, by its digits: without a fraction, and with one whose last digit stands at place r
pub fixed_plain : (n scale count : ℕ) → n < 10 ^ count → ((k : ℕ) → n < 10 ^ k → count ≤ k) → ((i : ℕ) → i < scale → digit n i ≡ 0)
    → fixed_text n scale ≡ figures (max count (scale + 1) - scale) (n / 10 ^ scale)
unfolding fixed_text count_text
fixed_plain n scale count h least z =
    rw (trim_none scale n z, append-nil, size_whole n scale count h least)

pub fixed_point : (n scale count r : ℕ) → n < 10 ^ count → ((k : ℕ) → n < 10 ^ k → count ≤ k) → r < scale → ((i : ℕ) → i < r → digit n i ≡ 0) → (digit n r ≡ 0 → ⊥)
    → fixed_text n scale ≡ figures (max count (scale + 1) - scale) (n / 10 ^ scale) ++ (46 ∷ figures (scale - r) (n / 10 ^ r))
unfolding fixed_text count_text
fixed_point n scale count r h least l z f =
    rw (trim_some scale r n l z f, size_whole n scale count h least) (ap (λ (t : List ℕ). figures (max count (scale + 1) - scale) (n / 10 ^ scale) ++ t) (pointed_some (scale - r) (n / 10 ^ r) (omega arith)))
