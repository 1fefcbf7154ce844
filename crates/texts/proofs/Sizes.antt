-- How long the texts of numbers are, and which bytes they have: digits, a minus sign and a point.
use Rattle.std.proofs.Common.{◌≡◌, ℕ, zero, suc, ◌+◌, ◌-◌, ◌/◌, ◌^◌, ◌<◌, ◌≤◌, Bool, true, false, cond, eqb, List, [], ◌∷◌, ◌++◌, length, ℤ, nat_abs, subst, append-nil, mod-lt, arith, lit<, length-append}
use Rattle.texts.specs.Number.{digit, figures, size, count_text, int_text, before, trimmed, pointed, fixed_text, decimal_text, minus, negative}
use Rattle.texts.proofs.Numbers.{below_power, size_pos, size_least, figures_length}
use Rattle.texts.proofs.Passes.{minus_short}
use Rattle.texts.proofs.Spells.{trim_length}

-- a number below 10 ^ k has at most k digits
pub count_length : (n k : ℕ) → 1 ≤ k → n < 10 ^ k → length (count_text n) ≤ k
unfolding count_text
count_length n k h l = rw figures_length (size_least n k h l)

pub count_some : (n : ℕ) → 1 ≤ length (count_text n)
unfolding count_text
count_some n = rw figures_length (size_pos n)

pub int_length : (z : ℤ) (k : ℕ) → 1 ≤ k → nat_abs z < 10 ^ k → length (int_text z) ≤ k + 1
unfolding int_text
int_length z k h l = rw length-append (omega (arith, minus_short (negative z), count_length (nat_abs z) k h l))

pointed_length : (ds : List ℕ) → length (pointed ds) ≤ length ds + 1
pointed_length [] = omega arith
pointed_length (d ∷ ds) = omega arith

-- a sign, k digits and a point
pub decimal_length : (z : ℤ) (scale k : ℕ) → scale < k → nat_abs z < 10 ^ k → length (decimal_text z scale) ≤ k + 2
unfolding decimal_text fixed_text
decimal_length z scale k h l =
    let n : ℕ = nat_abs z in
    let e : scale + (k - scale) ≡ k = omega arith in
    let w : length (count_text (n / 10 ^ scale)) ≤ k - scale = count_length (n / 10 ^ scale) (k - scale) (omega arith) (below_power n scale (k - scale) (rw e l)) in
    let f : length (figures scale n) ≡ scale = figures_length scale n in
    let t : length (trimmed (figures scale n)) ≤ length (figures scale n) = trim_length (figures scale n) in
    let p : length (pointed (trimmed (figures scale n))) ≤ length (trimmed (figures scale n)) + 1 = pointed_length (trimmed (figures scale n)) in
    let m : length (minus (negative z)) ≤ 1 = minus_short (negative z) in
    rw (length-append, length-append) (omega arith)

-- what holds of the empty text, and still holds with a digit, a minus sign or a point in front, holds of every number's text
module _ (Q : List ℕ → Type 0) (none : Q []) (digits : (d : ℕ) (t : List ℕ) → d < 10 → Q t → Q ((48 + d) ∷ t)) where
  figures_have : (k n : ℕ) (t : List ℕ) → Q t → Q (figures k n ++ t)
  unfolding figures
  figures_have zero n t h = h
  figures_have (suc k) n t h = digits (digit n k) _ (mod-lt _ (lit< tt)) (figures_have k n t h)

  before_has : (d : ℕ) (t : List ℕ) → d < 10 → Q t → Q (before (48 + d) t)
  before_has d [] l h = go (eqb (48 + d) 48)
    where
      go : (b : Bool) → Q (cond b [] ((48 + d) ∷ []))
      go true = none
      go false = digits d [] l none
  before_has d (e ∷ es) l h = digits d (e ∷ es) l h

  trimmed_has : (k n : ℕ) → Q (trimmed (figures k n))
  unfolding figures trimmed
  trimmed_has zero n = none
  trimmed_has (suc k) n = before_has (digit n k) _ (mod-lt _ (lit< tt)) (trimmed_has k n)

  pub count_has : (n : ℕ) → Q (count_text n)
  unfolding count_text
  count_has n = subst Q (append-nil (figures (size n) n)) (figures_have (size n) n [] none)

  minus_has : (b : Bool) (t : List ℕ) → ((s : List ℕ) → Q s → Q (45 ∷ s)) → Q t → Q (minus b ++ t)
  minus_has true t minuses h = minuses t h
  minus_has false t minuses h = h

  pub int_has : (z : ℤ) → ((t : List ℕ) → Q t → Q (45 ∷ t)) → Q (int_text z)
  unfolding int_text
  int_has z minuses = minus_has (negative z) _ minuses (count_has (nat_abs z))

  pointed_has : (t : List ℕ) → ((s : List ℕ) → Q s → Q (46 ∷ s)) → Q t → Q (pointed t)
  pointed_has [] points h = none
  pointed_has (d ∷ ds) points h = points (d ∷ ds) h

  pub decimal_has : (z : ℤ) (scale : ℕ) → ((t : List ℕ) → Q t → Q (45 ∷ t)) → ((t : List ℕ) → Q t → Q (46 ∷ t)) → Q (decimal_text z scale)
  unfolding decimal_text fixed_text count_text
  decimal_has z scale minuses points =
      minus_has (negative z) _ minuses
      (figures_have (size (nat_abs z / 10 ^ scale)) (nat_abs z / 10 ^ scale) _
      (pointed_has (trimmed (figures scale (nat_abs z))) points (trimmed_has scale (nat_abs z))))
