-- The texts of numbers read back as the numbers, without needless zeros.
use Rattle.std.specs.Prelude.{◌≢◌, Some, slice_get, All}
use Rattle.std.proofs.lemmas.List.Elements.{All-append, All-nil, All-cons, All-head, All-tail}
use Rattle.std.proofs.lemmas.Option.{none-some, same_Some}
use Rattle.std.proofs.Common.{◌≡◌, ℕ, zero, suc, ◌+◌, ◌-◌, ◌*◌, ◌/◌, ◌%◌, ◌^◌, ◌<◌, ◌≤◌, Bool, true, false, cond, eqb, List, [], ◌∷◌, ◌++◌, length, get_or, replicate, ℤ, pos, negsuc, nat_abs, sym, refl, ap, ◌∙◌, subst, append-nil, suc-le-suc, le_trans, add-zero, mod-eq_of_lt, mul_assoc, add-mul, div-add-mod', zero-mul, mul-one, add-one, arith, lit<, ne_eqb, eqb-true}
use native.Mathlib.Nat.{pow-succ', mod-one, mod-lt}
use lib.Arith.{mod-mul}
use Rattle.texts.specs.Number.{digit, figures, size, count_text, int_text, before, trimmed, pointed, fixed_text, decimal_text, negative}
use Rattle.texts.specs.Spelling.{worth, before_point, after_point, is_minus, unsigned, places, number, IsDigit, SpellsBack}
use Rattle.texts.proofs.Numbers.{ten_pos, below_power, below_power_back, size_pos, size_above, size_least, figures_length}
use Rattle.texts.proofs.Signs.{fixed_whole}

-- the number of digits in a row
pub worth_figures : (a k n : ℕ) → worth a (figures k n) ≡ a * 10 ^ k + n % 10 ^ k
unfolding worth figures
worth_figures a zero n = let e : n % 1 ≡ 0 = mod-one n in omega arith
worth_figures a (suc k) n =
    let d : ℕ = digit n k in
    let p : ℕ = 10 ^ k in
    let ih : worth (a * 10 + (48 + d - 48)) (figures k n) ≡ (a * 10 + (48 + d - 48)) * p + n % p = worth_figures (a * 10 + (48 + d - 48)) k n in
    let z : 48 + d - 48 ≡ d = omega arith in
    let m : n % (10 * p) ≡ d * p + n % p = mod-mul n {m = 10} {c = p} (lit< tt) (ten_pos k) in
    let e : (a * 10 + d) * p ≡ a * 10 * p + d * p = add-mul (a * 10) d p in
    let f : a * 10 * p ≡ a * (10 * p) = mul_assoc a 10 p in
    let g : (a * 10 + (48 + d - 48)) * p ≡ (a * 10 + d) * p = ap (λ (x : ℕ). (a * 10 + x) * p) z in
    ih ∙ rw (pow-succ' 10 k) (omega arith)

worth_append : (a : ℕ) (s t : List ℕ) → worth a (s ++ t) ≡ worth (worth a s) t
unfolding worth
worth_append a [] t = refl
worth_append a (d ∷ s) t = worth_append (a * 10 + (d - 48)) s t

pub worth_count : (n : ℕ) → worth 0 (count_text n) ≡ n
unfolding count_text
worth_count n =
    let e : n % 10 ^ size n ≡ n = mod-eq_of_lt (size_above n) in
    let z : 0 * 10 ^ size n ≡ 0 = zero-mul (10 ^ size n) in
    worth_figures 0 (size n) n ∙ omega arith

worth_zeros : (a j : ℕ) → worth a (replicate j 48) ≡ a * 10 ^ j
unfolding worth
worth_zeros a zero = sym (mul-one a)
worth_zeros a (suc j) =
    let e : a * 10 * 10 ^ j ≡ a * (10 * 10 ^ j) = mul_assoc a 10 (10 ^ j) in
    ap (λ (x : ℕ). worth x (replicate j 48)) (add-zero (a * 10)) ∙ worth_zeros (a * 10) j ∙ rw (pow-succ' 10 j) e

-- trimming takes trailing zeros off, and leaves none
before_length : (d : ℕ) (ds : List ℕ) → length (before d ds) ≤ suc (length ds)
before_length d [] = go (eqb d 48)
  where
    go : (t : Bool) → length (cond t [] (d ∷ [])) ≤ 1
    go true = omega arith
    go false = omega arith
before_length d (e ∷ es) = omega arith

before_zeros : (d k : ℕ) (ds : List ℕ) → length ds ≤ k → d ∷ (ds ++ replicate (k - length ds) 48) ≡ before d ds ++ replicate (suc k - length (before d ds)) 48
before_zeros d k [] h = go (eqb d 48) refl
  where
    go : (t : Bool) → eqb d 48 ≡ t → d ∷ replicate (k - 0) 48 ≡ before d [] ++ replicate (suc k - length (before d [])) 48
    go true e = let z : d ≡ 48 = eqb-true d 48 e in let o : suc k - 0 ≡ suc (k - 0) = omega arith in rw (e, o, z)
    go false e = let o : suc k - 1 ≡ k - 0 = omega arith in rw (e, o)
before_zeros d k (e ∷ es) h = let o : suc k - suc (suc (length es)) ≡ k - suc (length es) = omega arith in rw o

before_trimmed : (d : ℕ) (ds : List ℕ) → trimmed ds ≡ ds → trimmed (before d ds) ≡ before d ds
unfolding trimmed
before_trimmed d [] h = go (eqb d 48) refl
  where
    go : (t : Bool) → eqb d 48 ≡ t → trimmed (before d []) ≡ before d []
    go true e = rw e
    go false e = rw (e, e)
before_trimmed d (e ∷ es) h = ap (λ (ds : List ℕ). before d ds) h

pub trim_length : (ds : List ℕ) → length (trimmed ds) ≤ length ds
unfolding trimmed
trim_length [] = omega arith
trim_length (d ∷ ds) = le_trans (before_length d (trimmed ds)) (suc-le-suc (trim_length ds))

pub trim_zeros : (ds : List ℕ) → ds ≡ trimmed ds ++ replicate (length ds - length (trimmed ds)) 48
unfolding trimmed
trim_zeros [] = refl
trim_zeros (d ∷ ds) = ap (λ (x : List ℕ). d ∷ x) (trim_zeros ds) ∙ before_zeros d (length ds) (trimmed ds) (trim_length ds)

pub trim_twice : (ds : List ℕ) → trimmed (trimmed ds) ≡ trimmed ds
unfolding trimmed
trim_twice [] = refl
trim_twice (d ∷ ds) = before_trimmed d (trimmed ds) (trim_twice ds)

trim_worth : (a : ℕ) (ds : List ℕ) → worth a (trimmed ds) * 10 ^ (length ds - length (trimmed ds)) ≡ worth a ds
trim_worth a ds =
    sym (ap (λ (x : List ℕ). worth a x) (trim_zeros ds) ∙ worth_append a (trimmed ds) (replicate (length ds - length (trimmed ds)) 48)
    ∙ worth_zeros (worth a (trimmed ds)) (length ds - length (trimmed ds)))

-- digits are no points and no signs
before_figures : (k n : ℕ) (t : List ℕ) → before_point (figures k n ++ t) ≡ figures k n ++ before_point t
unfolding before_point figures
before_figures zero n t = refl
before_figures (suc k) n t = rw (ne_eqb (48 + digit n k) 46 (λ e. omega arith)) (ap (λ (ds : List ℕ). (48 + digit n k) ∷ ds) (before_figures k n t))

after_figures : (k n : ℕ) (t : List ℕ) → after_point (figures k n ++ t) ≡ after_point t
unfolding after_point figures
after_figures zero n t = refl
after_figures (suc k) n t = rw (ne_eqb (48 + digit n k) 46 (λ e. omega arith)) (after_figures k n t)

before_pointed : (ds : List ℕ) → before_point (pointed ds) ≡ []
unfolding before_point
before_pointed [] = refl
before_pointed (d ∷ ds) = refl

after_pointed : (ds : List ℕ) → after_point (pointed ds) ≡ ds
unfolding after_point
after_pointed [] = refl
after_pointed (d ∷ ds) = refl

-- the parts of a text in fixed point
unsigned_count : (n : ℕ) (t : List ℕ) → (unsigned (count_text n ++ t) ≡ count_text n ++ t) × (is_minus (count_text n ++ t) ≡ false)
unfolding count_text figures
unsigned_count n t = go (size n) (size_pos n)
  where
    go : (k : ℕ) → 1 ≤ k → (unsigned (figures k n ++ t) ≡ figures k n ++ t) × (is_minus (figures k n ++ t) ≡ false)
    go zero h = absurd (omega arith)
    go (suc k) h = let e = ne_eqb (48 + digit n k) 45 (λ x. omega arith) in (rw e, e)

unsigned_fixed : (n scale : ℕ) → (unsigned (fixed_text n scale) ≡ fixed_text n scale) × (is_minus (fixed_text n scale) ≡ false)
unfolding fixed_text
unsigned_fixed n scale = unsigned_count (n / 10 ^ scale) (pointed (trimmed (figures scale n)))

before_fixed : (n scale : ℕ) → before_point (fixed_text n scale) ≡ count_text (n / 10 ^ scale)
unfolding fixed_text count_text
before_fixed n scale =
    let q : ℕ = n / 10 ^ scale in
    before_figures (size q) q (pointed (trimmed (figures scale n))) ∙ ap (λ (x : List ℕ). figures (size q) q ++ x) (before_pointed (trimmed (figures scale n))) ∙ append-nil (figures (size q) q)

after_fixed : (n scale : ℕ) → after_point (fixed_text n scale) ≡ trimmed (figures scale n)
unfolding fixed_text count_text
after_fixed n scale =
    let q : ℕ = n / 10 ^ scale in
    after_figures (size q) q (pointed (trimmed (figures scale n))) ∙ after_pointed (trimmed (figures scale n))

fixed_worth : (n scale : ℕ) → worth 0 (count_text (n / 10 ^ scale) ++ trimmed (figures scale n)) * 10 ^ (scale - length (trimmed (figures scale n))) ≡ n
fixed_worth n scale =
    let q : ℕ = n / 10 ^ scale in
    let f : List ℕ = figures scale n in
    ap (λ (x : ℕ). x * 10 ^ (scale - length (trimmed f))) (worth_append 0 (count_text q) (trimmed f) ∙ ap (λ (x : ℕ). worth x (trimmed f)) (worth_count q))
    ∙ ap (λ (x : ℕ). worth q (trimmed f) * 10 ^ (x - length (trimmed f))) (sym (figures_length scale n))
    ∙ trim_worth q f
    ∙ worth_figures q scale n
    ∙ div-add-mod' n (10 ^ scale)

-- digits are digits, also without trailing zeros, and each number has one
figures_digits : (k n : ℕ) → All IsDigit (figures k n)
unfolding figures
figures_digits zero n = All-nil IsDigit
figures_digits (suc k) n =
    let l : digit n k < 10 = mod-lt (n / 10 ^ k) (lit< tt) in
    All-cons IsDigit (48 + digit n k) (figures k n) (omega arith, omega arith) (figures_digits k n)

before_digits : (d : ℕ) (ds : List ℕ) → IsDigit d → All IsDigit ds → All IsDigit (before d ds)
before_digits d [] h hs = go (eqb d 48)
  where
    go : (t : Bool) → All IsDigit (cond t [] (d ∷ []))
    go true = All-nil IsDigit
    go false = All-cons IsDigit d [] h hs
before_digits d (e ∷ es) h hs = All-cons IsDigit d (e ∷ es) h hs

trimmed_digits : (ds : List ℕ) → All IsDigit ds → All IsDigit (trimmed ds)
unfolding trimmed
trimmed_digits [] h = All-nil IsDigit
trimmed_digits (d ∷ ds) h = before_digits d (trimmed ds) (All-head IsDigit d ds h) (trimmed_digits ds (All-tail IsDigit d ds h))

fixed_digits : (n scale : ℕ) → All IsDigit (count_text (n / 10 ^ scale) ++ trimmed (figures scale n))
unfolding count_text
fixed_digits n scale =
    let q : ℕ = n / 10 ^ scale in
    All-append IsDigit (figures (size q) q) (trimmed (figures scale n)) (figures_digits (size q) q) (trimmed_digits (figures scale n) (figures_digits scale n))

count_some : (n : ℕ) → count_text n ≢ []
unfolding count_text figures
count_some n = go (size n) (size_pos n)
  where
    go : (k : ℕ) → 1 ≤ k → figures k n ≢ []
    go zero h = absurd (omega arith)
    go (suc k) h = λ e. cc

spells : (z : ℤ) (n scale : ℕ) (t : List ℕ) → n ≡ nat_abs z → is_minus t ≡ negative z → unsigned t ≡ fixed_text n scale → SpellsBack z scale t
unfolding places number
spells z n scale t e m u =
    let b : before_point (unsigned t) ≡ count_text (n / 10 ^ scale) = ap before_point u ∙ before_fixed n scale in
    let a : after_point (unsigned t) ≡ trimmed (figures scale n) = ap after_point u ∙ after_fixed n scale in
    record {
      sign = m;
      digits = rw (a, b) (fixed_digits n scale);
      whole = rw b (count_some (n / 10 ^ scale));
      few = rw a (subst (λ (k : ℕ). length (trimmed (figures scale n)) ≤ k) (figures_length scale n) (trim_length (figures scale n)));
      value = rw (a, b) (fixed_worth n scale ∙ e);
    }

pub decimal_spells : (z : ℤ) (scale : ℕ) → SpellsBack z scale (decimal_text z scale)
unfolding decimal_text
decimal_spells (pos n) scale =
    let u = unsigned_fixed n scale in
    spells (pos n) n scale _ refl u.1 u.0
decimal_spells (negsuc n) scale = spells (negsuc n) (suc n) scale _ refl refl refl

int_decimal : (z : ℤ) → decimal_text z 0 ≡ int_text z
unfolding decimal_text int_text
int_decimal z = rw fixed_whole

pub int_spells : (z : ℤ) → SpellsBack z 0 (int_text z)
int_spells z = subst (λ (t : List ℕ). SpellsBack z 0 t) (int_decimal z) (decimal_spells z 0)

-- a whole number of two digits or more starts with no zero
leading : (k n : ℕ) → n < 10 ^ suc k → digit n k ≡ 0 → n < 10 ^ k
leading k n h z =
    let small : n / 10 ^ k < 10 = below_power n k 1 (rw add-one h) in
    let none : n / 10 ^ k ≡ 0 = sym (mod-eq_of_lt small) ∙ z in
    subst (λ (j : ℕ). n < 10 ^ j) (add-zero k) (below_power_back n k 0 (rw none (lit< tt)))

zero_first : (n : ℕ) → 1 < size n → get_or (count_text n) 0 0 ≡ 48 → ⊥
unfolding count_text figures
zero_first n = go (size n) refl
  where
    go : (k : ℕ) → size n ≡ k → 1 < k → get_or (figures k n) 0 0 ≡ 48 → ⊥
    go zero e h x = omega arith
    go (suc k) e h x =
        let z : digit n k ≡ 0 = omega arith in
        let l : n < 10 ^ suc k = subst (λ (j : ℕ). n < 10 ^ j) e (size_above n) in
        let o : size n ≤ k = size_least n k (omega arith) (leading k n l z) in
        omega arith

at_front : (ds : List ℕ) (d : ℕ) → slice_get ds 0 ≡ Some d → get_or ds 0 0 ≡ d
at_front [] d e = absurd (none-some d e)
at_front (x ∷ ds) d e = same_Some x d e

pub no_leading_zero : (n : ℕ) → 1 < size n → slice_get (count_text n) 0 ≢ Some 48
no_leading_zero n h e = zero_first n h (at_front (count_text n) 48 e)
