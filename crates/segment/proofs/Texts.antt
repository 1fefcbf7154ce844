-- Laws of the texts that a value stands for.
use Prim.Native.Nat.{ℕ, zero, suc, ◌+◌, ◌≤◌, ◌<◌}
use mathlib.Core.Path.{◌≡◌, refl, sym, ap, ◌∙◌}
use mathlib.Core.List.{List, [], ◌∷◌, ◌++◌, append-nil, append_assoc}
use mathlib.Core.Bool.{Bool, true, false}
use native.Mathlib.Omega.{arith}
use native.Mathlib.Numerals.{add-one}
use lib.ListN.{length, get_or, take, drop, replicate, length-append, length-replicate, drop_of_length-le}
use lib.Seq.{drop-cons, get_or-take, get_or-drop}
use lib.Dec.{eqb, eqb-suc-zero}
use Rattle.lent.specs.Fit.{cap, more, Stored}
use Rattle.lent.specs.Window.{stretch}
use Rattle.lent.proofs.Laws.{stored_append, length_stretch}
use Rattle.segment.specs.declared.Value.{Value}
use Rattle.segment.specs.Parts.{pick, is_empty}
use Rattle.segment.specs.Values.{value_text, holds, holds_any, one_of}

-- ---- whether a text is empty

pub some_there : (l : List ℕ) → 0 < length l → is_empty l ≡ false
some_there [] h = let z : ⊥ = omega arith in absurd z
some_there (x ∷ xs) h = refl

pub none_there : (l : List ℕ) → length l ≡ 0 → is_empty l ≡ true
none_there [] e = refl
none_there (x ∷ xs) e = let z : ⊥ = omega arith in absurd z

pub length_value : (job : List ℕ) (v : Value)
    → length (value_text job v) ≡ v.zeros + (length (take v.count v.bytes) + (length (stretch job v.start v.len) + v.spaces))
unfolding value_text
length_value job v = simp (length-append, length-replicate)

pub empty_value : (job : List ℕ) (v : Value)
    → is_empty (value_text job v) ≡ eqb (v.zeros + (length (take v.count v.bytes) + (length (stretch job v.start v.len) + v.spaces))) 0
empty_value job v = go (value_text job v) ∙ ap (λ n. eqb n 0) (length_value job v)
  where
    go : (l : List ℕ) → is_empty l ≡ eqb (length l) 0
    go [] = refl
    go (x ∷ xs) = sym (eqb-suc-zero (length xs))

-- ---- a text is stored in two halves

pub stored_value : (job : List ℕ) (v : Value) {d d₁ d₂ : List ℕ} {at p q : ℕ} → length d ≤ cap
    → Stored d at (replicate v.zeros 48 ++ take v.count v.bytes) p d₁
    → Stored d₁ p (stretch job v.start v.len ++ replicate v.spaces 32) q d₂
    → Stored d at (value_text job v) q d₂
unfolding value_text
stored_value job v h a b = rw append_assoc at (stored_append _ _ h a b)

-- ---- texts of one piece

pub text_held : (job bytes : List ℕ) (start len : ℕ) → value_text job (record { zeros = 0; bytes = bytes; count = 0; start = start; len = len; spaces = 0 }) ≡ stretch job start len
unfolding value_text
text_held job bytes start len = append-nil (stretch job start len)

pub text_own : (job bytes : List ℕ) (count : ℕ) → value_text job (record { zeros = 0; bytes = bytes; count = count; start = 0; len = 0; spaces = 0 }) ≡ take count bytes
unfolding value_text
text_own job bytes count = append-nil (take count bytes)

-- ---- the length, counted piece by piece

pub count_text_lem : (job : List ℕ) (v : Value) {own held a b r : ℕ} → own ≡ length (stretch v.bytes 0 v.count) → held ≡ length (stretch job v.start v.len)
    → a ≡ more v.zeros own → b ≡ more a held → r ≡ more b v.spaces → r ≡ more 0 (length (value_text job v))
count_text_lem job v e₁ e₂ e₃ e₄ e₅ = rw length_value (counted v.zeros _ _ v.spaces e₁ e₂ e₃ e₄ e₅)
  where
    counted : (z o h s : ℕ) {own held a b r : ℕ} → own ≡ o → held ≡ h → a ≡ more z own → b ≡ more a held → r ≡ more b s → r ≡ more 0 (z + (o + (h + s)))
    counted z o h s f₁ f₂ f₃ f₄ f₅ = omega arith

-- ---- whether a byte of a text passes a test

pub any_append : (f : ℕ → Bool) (xs ys : List ℕ) → holds_any f (xs ++ ys) ≡ pick (holds_any f xs) true (holds_any f ys)
unfolding holds_any
any_append f [] ys = refl
any_append f (x ∷ xs) ys = go (f x) (any_append f xs ys)
  where
    go : (t : Bool) → holds_any f (xs ++ ys) ≡ pick (holds_any f xs) true (holds_any f ys) → pick t true (holds_any f (xs ++ ys)) ≡ pick (pick t true (holds_any f xs)) true (holds_any f ys)
    go true ih = refl
    go false ih = ih

pub any_run : (f : ℕ → Bool) (x n : ℕ) → (n ≡ 0 → ⊥) → f x ≡ holds_any f (replicate n x)
unfolding holds_any
any_run f x zero h = absurd (h refl)
any_run f x (suc zero) h = go (f x)
  where
    go : (t : Bool) → t ≡ pick t true false
    go true = refl
    go false = refl
any_run f x (suc (suc n)) h = go (f x) (any_run f x (suc n) (λ e. omega arith))
  where
    go : (t : Bool) → t ≡ holds_any f (replicate (suc n) x) → t ≡ pick t true (holds_any f (replicate (suc n) x))
    go true e = refl
    go false e = e

pub any_none : (f : ℕ → Bool) (l : List ℕ) → l ≡ [] → false ≡ holds_any f l
unfolding holds_any
any_none f l e = rw e

-- one byte of a stretch, and the rest of it
pub any_turn : (f : ℕ → Bool) (source : List ℕ) (start len i : ℕ) → i < length (stretch source start len)
    → holds_any f (drop i (stretch source start len)) ≡ pick (f (get_or source (start + i) 0)) true (holds_any f (drop (i + 1) (stretch source start len)))
unfolding holds_any
any_turn f source start len i h =
    let k : i < len = omega (arith, length_stretch source start len) in
    let e : get_or (stretch source start len) i 0 ≡ get_or source (start + i) 0 = get_or-take len (drop start source) i 0 k ∙ get_or-drop start source i 0 in
    ap (holds_any f) (drop-cons (stretch source start len) i 0 h) ∙ rw (e, add-one)

pub any_past : (f : ℕ → Bool) (l : List ℕ) (i : ℕ) → length l ≤ i → holds_any f (drop i l) ≡ false
any_past f l i h = sym (any_none f (drop i l) (drop_of_length-le l h))

abbrev pub either : Bool → Bool → Bool
either a b = pick a true b

-- the four pieces of a text
pub any_text : (f : ℕ → Bool) (job : List ℕ) (v : Value) → holds_any f (value_text job v)
    ≡ either (holds_any f (replicate v.zeros 48)) (either (holds_any f (take v.count v.bytes)) (either (holds_any f (stretch job v.start v.len)) (holds_any f (replicate v.spaces 32))))
unfolding value_text
any_text f job v =
    any_append f (replicate v.zeros 48) _
    ∙ ap (either (holds_any f (replicate v.zeros 48))) (any_append f (take v.count v.bytes) _
    ∙ ap (either (holds_any f (take v.count v.bytes))) (any_append f (stretch job v.start v.len) (replicate v.spaces 32)))

-- ---- one of four bytes

-- four times the same byte
pub one_byte : (b : ℕ) (text : List ℕ) → holds_any (one_of b b b b) text ≡ holds b text
unfolding holds holds_any one_of
one_byte b [] = refl
one_byte b (x ∷ xs) = go (eqb x b) (one_byte b xs)
  where
    go : (t : Bool) → holds_any (one_of b b b b) xs ≡ holds b xs → pick (either t (either t (either t t))) true (holds_any (one_of b b b b) xs) ≡ pick t true (holds b xs)
    go true ih = refl
    go false ih = ih

neither : (a b : Bool) → either a b ≡ false → (a ≡ false) × (b ≡ false)
neither true b e = let z : ◌≡◌ {A = ℕ} 0 1 = cc in let n : ⊥ = omega arith in absurd n
neither false b e = (refl, e)

-- what fails the one test fails the other
pub any_fewer : (f g : ℕ → Bool) → ((x : ℕ) → f x ≡ false → g x ≡ false) → (text : List ℕ) → holds_any f text ≡ false → holds_any g text ≡ false
unfolding holds_any
any_fewer f g h [] e = refl
any_fewer f g h (x ∷ xs) e = let n = neither (f x) (holds_any f xs) e in rw (h x n.0) (any_fewer f g h xs n.1)

-- where none of four bytes is in a text
pub none_of : (a b c d : ℕ) (text : List ℕ) → holds_any (one_of a b c d) text ≡ false
    → (holds a text ≡ false) × (holds b text ≡ false) × (holds c text ≡ false) × (holds d text ≡ false)
unfolding holds one_of
none_of a b c d text e = (
  any_fewer _ _ (λ x h. (neither (eqb x a) _ h).0) text e,
  any_fewer _ _ (λ x h. (neither (eqb x b) _ (neither (eqb x a) _ h).1).0) text e,
  any_fewer _ _ (λ x h. (neither (eqb x c) _ (neither (eqb x b) _ (neither (eqb x a) _ h).1).1).0) text e,
  any_fewer _ _ (λ x h. (neither (eqb x c) _ (neither (eqb x b) _ (neither (eqb x a) _ h).1).1).1) text e,
)
