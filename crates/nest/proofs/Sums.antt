-- Sums over lists: of a list put together, and of one that is zero but at one place.
use Prim.Native.Nat.{ℕ, zero, suc, ◌+◌, ◌≤◌, ◌<◌}
use mathlib.Core.Path.{◌≡◌, refl, sym, ap, ◌∙◌}
use mathlib.Core.Bool.{Bool, true, false, ◌&&◌}
use mathlib.Core.List.{List, [], ◌∷◌, ◌++◌, map}
use native.Mathlib.Omega.{arith}
use lib.Dec.{eqb}
use borrow.Author.Tests.{eq-eqb, ne_eqb, eqb-true, eqb-false}
use Rattle.nest.specs.Lists.{once, each, keep, from, sum, times}

pub sum_append : {A : Type 0} (f : A → ℕ) (xs ys : List A) → sum f (xs ++ ys) ≡ sum f xs + sum f ys
sum_append f [] ys = omega arith
sum_append f (x ∷ xs) ys = omega (arith, sum_append f xs ys)

pub sum_each : {A B : Type 0} (f : B → ℕ) (g : A → List B) (xs : List A) → sum f (each g xs) ≡ sum (λ x. sum f (g x)) xs
sum_each f g [] = refl
sum_each f g (x ∷ xs) = omega (arith, sum_append f (g x) (each g xs), sum_each f g xs)

pub sum_map : {A B : Type 0} (f : B → ℕ) (g : A → B) (xs : List A) → sum f (map g xs) ≡ sum (λ x. f (g x)) xs
sum_map f g [] = refl
sum_map f g (x ∷ xs) = omega (arith, sum_map f g xs)

pub sum_same : {A : Type 0} (f g : A → ℕ) (xs : List A) → ((x : A) → f x ≡ g x) → sum f xs ≡ sum g xs
sum_same f g [] e = refl
sum_same f g (x ∷ xs) e = omega (arith, e x, sum_same f g xs e)

pub sum_zero : {A : Type 0} (f : A → ℕ) (xs : List A) → ((x : A) → f x ≡ 0) → sum f xs ≡ 0
sum_zero f [] e = refl
sum_zero f (x ∷ xs) e = omega (arith, e x, sum_zero f xs e)

-- ---- over numbers

pub once_same : (n : ℕ) → once (eqb n n) ≡ 1
once_same n = ap once (eq-eqb n n refl)

pub once_other : (m n : ℕ) → (m ≡ n → ⊥) → once (eqb m n) ≡ 0
once_other m n d = ap once (ne_eqb m n d)

-- zero at each number that is there
pub sum_none : (f : ℕ → ℕ) (xs : List ℕ) → ((k : ℕ) → 0 < times k xs → f k ≡ 0) → sum f xs ≡ 0
sum_none f [] e = refl
sum_none f (x ∷ xs) e =
    let here : f x ≡ 0 = e x (omega (arith, once_same x)) in
    let rest : sum f xs ≡ 0 = sum_none f xs (λ k h. e k (omega arith)) in
    omega arith

-- zero at each number but n, which is there once
pub sum_one : (f : ℕ → ℕ) (n : ℕ) (xs : List ℕ) → times n xs ≡ 1 → ((k : ℕ) → (k ≡ n → ⊥) → 0 < times k xs → f k ≡ 0) → sum f xs ≡ f n
sum_one f n [] t e = absurd (omega (arith, t))
sum_one f n (x ∷ xs) t e = go (eqb x n) refl (sum_one f n xs)
  where
    go : (b : Bool) → eqb x n ≡ b → (times n xs ≡ 1 → ((k : ℕ) → (k ≡ n → ⊥) → 0 < times k xs → f k ≡ 0) → sum f xs ≡ f n) → f x + sum f xs ≡ f n
    go true q more =
        let x-n : x ≡ n = eqb-true x n q in
        let gone : times n xs ≡ 0 = omega (arith, t, ap once q) in
        let rest : sum f xs ≡ 0 = sum_none f xs (λ k h. e k (λ z. omega (arith, gone, ap (λ i. times i xs) z)) (omega arith)) in
        omega (arith, ap f x-n)
    go false q more =
        let here : f x ≡ 0 = e x (eqb-false x n q) (omega (arith, once_same x)) in
        let rest : sum f xs ≡ f n = more (omega (arith, t, ap once q)) (λ k d h. e k d (omega arith)) in
        omega arith

-- ---- how often o stands among those of n numbers that pass

times_kept : (p : ℕ → Bool) (o x : ℕ) (xs : List ℕ) (b : Bool) → p x ≡ b → times o (keep p (x ∷ xs)) ≡ once (b && eqb x o) + times o (keep p xs)
times_kept p o x xs true e = rw e
times_kept p o x xs false e = rw e (omega arith)

pub times_before : (p : ℕ → Bool) (n a o : ℕ) → o < a → times o (keep p (from a n)) ≡ 0
times_before p zero a o h = refl
times_before p (suc n) a o h = go (p a) refl (times_before p n (suc a) o (omega arith))
  where
    go : (b : Bool) → p a ≡ b → times o (keep p (from (suc a) n)) ≡ 0 → times o (keep p (from a (suc n))) ≡ 0
    go true e rest = omega (arith, times_kept p o a (from (suc a) n) true e, rest, once_other a o (omega arith))
    go false e rest = omega (arith, times_kept p o a (from (suc a) n) false e, rest)

pub times_within : (p : ℕ → Bool) (n a o : ℕ) → a ≤ o → o < a + n → times o (keep p (from a n)) ≡ once (p o)
times_within p zero a o h k = absurd (omega arith)
times_within p (suc n) a o h k = go (p a) refl (eqb a o) refl (times_within p n (suc a) o)
  where
    go : (b : Bool) → p a ≡ b → (s : Bool) → eqb a o ≡ s → (suc a ≤ o → o < suc a + n → times o (keep p (from (suc a) n)) ≡ once (p o)) → times o (keep p (from a (suc n))) ≡ once (p o)
    go b e true q more =
        let same : a ≡ o = eqb-true a o q in
        times_kept p o a (from (suc a) n) b e ∙ rw (q, times_before p n (suc a) o (omega arith)) (alone b ∙ ap once (sym e ∙ ap p same))
      where
        alone : (b : Bool) → once (b && true) + 0 ≡ once b
        alone true = refl
        alone false = refl
    go b e false q more =
        let differ : a ≡ o → ⊥ = eqb-false a o q in
        times_kept p o a (from (suc a) n) b e ∙ rw q (off b ∙ more (omega arith) (omega arith))
      where
        off : (b : Bool) → once (b && false) + times o (keep p (from (suc a) n)) ≡ times o (keep p (from (suc a) n))
        off true = omega arith
        off false = omega arith

-- all of n numbers
pub times_all : (n a o : ℕ) → a ≤ o → o < a + n → times o (from a n) ≡ 1
times_all n a o h k = same n a ∙ times_within (λ i. true) n a o h k
  where
    same : (n a : ℕ) → times o (from a n) ≡ times o (keep (λ i. true) (from a n))
    same zero a = refl
    same (suc n) a = ap (λ i. once (eqb a o) + i) (same n (suc a))
