-- Laws of whole numbers, whose digits are put in their places from the last on.
use Rattle.std.proofs.Common.{◌≡◌, ℕ, suc, ◌+◌, ◌-◌, ◌*◌, ◌/◌, ◌%◌, ◌^◌, ◌<◌, ◌≤◌, List, [], ◌∷◌, ◌++◌, length, set, sym, refl, ap, ◌∙◌, ap₂, append-nil, add-zero, div-one, arith, below_more}
use lib.Seq.{sets, set_comm}
use Rattle.texts.specs.declared.Text.{Text}
use Rattle.texts.specs.Held.{held, added}
use Rattle.texts.specs.declared.number.Shortened.{Shortened}
use Rattle.texts.specs.Number.{digit, figures, size, count_text, fixed_text}
use Rattle.texts.specs.Digits.{Shortens}
use Rattle.texts.proofs.Texts.{added_held}
use Rattle.texts.proofs.Numbers.{ten_next, ten_below, next_place, size_is, figures_length, figures_last, trim_none}

-- a number's size by the power of ten below it
pub size_next : (n k : ℕ) → 10 ^ k ≤ n → n < 10 * 10 ^ k → k + 1 ≡ size n
size_next n k h l =
    let t : 10 ^ k * 10 ≡ 10 ^ (k + 1) = ten_next (10 ^ k) k refl in
    let b : n < 10 ^ (k + 1) = omega arith in
    sym (size_is n (k + 1) (omega arith) b (λ j one m. omega (arith, ten_below n k j h m)))

pub size_none : (n : ℕ) → n ≡ 0 → 1 ≡ size n
size_none n e = sym (size_is n 1 (omega arith) (omega arith) (λ j one m. one))

-- zeros of a fraction go one by one
pub shortens_none : (n scale : ℕ) → Shortens n scale (record { rest = n; scale = scale })
shortens_none n scale =
    let z : scale - scale ≡ 0 = omega arith in
    record {
      rest = sym (ap (λ (k : ℕ). n / 10 ^ k) z ∙ div-one n);
      zeros = λ i h. absurd (omega arith);
    }

pub shortens_more : (n scale rest left : ℕ) → Shortens n scale (record { rest = rest; scale = left }) → 0 < left → left ≤ scale → rest % 10 ≡ 0
    → Shortens n scale (record { rest = rest / 10; scale = left - 1 })
shortens_more n scale rest left s h l z =
    let e : scale - (left - 1) ≡ scale - left + 1 = omega arith in
    record {
      rest = ap (λ (x : ℕ). x / 10) s.rest ∙ next_place n (scale - left) ∙ ap (λ (k : ℕ). n / 10 ^ k) (sym e);
      zeros = λ i k. below_more (λ (j : ℕ). digit n j ≡ 0) (scale - left) s.zeros (sym (ap (λ (x : ℕ). x % 10) s.rest) ∙ z) i (omega arith);
    }

-- a number whose fraction is all zeros is a whole number
pub fixed_shortened : (n scale : ℕ) (r : Shortened) → Shortens n scale r → r.scale ≡ 0 → fixed_text n scale ≡ count_text r.rest
unfolding fixed_text
fixed_shortened n scale r s z =
    let e : scale - r.scale ≡ scale = omega arith in
    rw (trim_none scale n (λ i h. s.zeros i (omega arith)), append-nil) (ap count_text (sym (s.rest ∙ ap (λ (k : ℕ). n / 10 ^ k) e)))

-- the last of some bytes may be stored first
sets_last : (d : List ℕ) (p : ℕ) (xs : List ℕ) (b : ℕ) → sets d p (xs ++ (b ∷ [])) ≡ sets (set d (p + length xs) b) p xs
sets_last d p [] b = rw add-zero
sets_last d p (a ∷ xs) b =
    let e : suc p + length xs ≡ p + suc (length xs) = omega arith in
    sets_last (set d p a) (suc p) xs b
    ∙ ap (λ (x : List ℕ). sets x (suc p) xs) (set_comm d p (suc p + length xs) a b (λ q. absurd (omega arith)) ∙ ap (λ (j : ℕ). set (set d j b) p a) e)

-- one digit stored, so many left
pub digit_stored : (bytes : List ℕ) (first at rest : ℕ) → first < at
    → sets bytes first (figures (at - first) rest) ≡ sets (set bytes (at - 1) (48 + rest % 10)) first (figures (at - 1 - first) (rest / 10))
digit_stored bytes first at rest h =
    let k = at - 1 - first in
    let e : at - first ≡ suc (at - 1 - first) = omega arith in
    let f : first + length (figures k (rest / 10)) ≡ at - 1 = rw figures_length (omega arith) in
    ap (λ (x : List ℕ). sets bytes first x) (ap (λ (j : ℕ). figures j rest) e ∙ figures_last k rest)
    ∙ sets_last bytes first (figures k (rest / 10)) (48 + rest % 10)
    ∙ ap (λ (j : ℕ). sets (set bytes j (48 + rest % 10)) first (figures k (rest / 10))) f

pub digits_stored : (t : Text) (s bytes : List ℕ) (n len at rest : ℕ) → t ≡ held s → length s ≤ 1 → size n ≤ 20 → len ≡ t.len + size n → at ≤ t.len
    → sets t.bytes t.len (figures (len - t.len) n) ≡ sets bytes t.len (figures (at - t.len) rest)
    → ◌≡◌ {A = Text} (record { bytes = bytes; len = len }) (held (s ++ count_text n))
unfolding added count_text figures
digits_stored t s bytes n len at rest t-is short few len_is h e =
    let k : len - t.len ≡ size n = omega arith in
    let z : at - t.len ≡ 0 = omega arith in
    let l : length (figures (size n) n) ≡ size n = figures_length (size n) n in
    ap₂ (λ (b : List ℕ) (m : ℕ). record { bytes = b; len = m })
    (sym (ap (λ (j : ℕ). sets t.bytes t.len (figures j n)) (sym k) ∙ e ∙ ap (λ (j : ℕ). sets bytes t.len (figures j rest)) z))
    (len_is ∙ ap (λ (j : ℕ). t.len + j) (sym l))
    ∙ ap (λ (x : Text). added x (figures (size n) n)) t-is
    ∙ added_held s (figures (size n) n) (omega arith)
