-- The words on lists by position, as a loop takes them: what is left from a place on is the element there, and what is left from the next place on.
use Prim.Native.Nat.{ℕ, zero, suc, ◌+◌, ◌-◌, ◌≤◌, ◌<◌, max}
use mathlib.Core.Path.{◌≡◌, refl, sym, ap, ap₂, ◌∙◌}
use mathlib.Core.Bool.{Bool, true, false, cond, ◌||◌}
use mathlib.Core.List.{List, [], ◌∷◌, ◌++◌, map, append_assoc}
use native.Mathlib.Numerals.{add-one}
use native.Mathlib.Omega.{arith}
use Rattle.std.specs.Prelude.{None, Some}
use Rattle.std.proofs.Math.Bool.{or_assoc}
use lib.ListN.{length, take, drop, get_or, drop_of_length-le}
use lib.Seq.{drop-cons, take-nil, drop-nil}
use Rattle.nest.specs.Lists.{each, keep, some_of, first, from, sum, part}
use Rattle.nest.specs.UpTo.{up_to}

-- ---- numbers from k on, below n

pub up_to_all : (n : ℕ) → up_to 0 n ≡ from 0 n
up_to_all n = let q : n - 0 ≡ n = omega arith in rw q

pub up_to_next : (k n : ℕ) → k < n → up_to k n ≡ k ∷ up_to (k + 1) n
up_to_next k n h = let q : n - k ≡ suc (n - (k + 1)) = omega arith in rw (q, add-one)

pub up_to_end : (k n : ℕ) → n ≤ k → up_to k n ≡ []
up_to_end k n h = let q : n - k ≡ 0 = omega arith in rw q

-- those that pass
pub keep_yes : (p : ℕ → Bool) (k n : ℕ) → k < n → p k ≡ true → keep p (up_to k n) ≡ k ∷ keep p (up_to (k + 1) n)
keep_yes p k n h e = rw (up_to_next k n h) (rw e)

pub keep_no : (p : ℕ → Bool) (k n : ℕ) → k < n → p k ≡ false → keep p (up_to k n) ≡ keep p (up_to (k + 1) n)
keep_no p k n h e = rw (up_to_next k n h) (rw e)

pub keep_end : (p : ℕ → Bool) (k n : ℕ) → n ≤ k → keep p (up_to k n) ≡ []
keep_end p k n h = rw (up_to_end k n h)

-- those from a on, one number more at the end
pub keep_more : (p : ℕ → Bool) (a k : ℕ) → a ≤ k → p k ≡ true → keep p (up_to a (k + 1)) ≡ keep p (up_to a k) ++ (k ∷ [])
keep_more p a k h e = let q : k + 1 - a ≡ suc (k - a) = omega arith in rw q (go (k - a) a (omega arith))
  where
    go : (n b : ℕ) → b + n ≡ k → keep p (from b (suc n)) ≡ keep p (from b n) ++ (k ∷ [])
    go zero b z = let y : b ≡ k = omega (arith, z) in rw (y, e)
    go (suc n) b z = step (p b) (go n (suc b) (omega (arith, z)))
      where
        step : (s : Bool) → keep p (from (suc b) (suc n)) ≡ keep p (from (suc b) n) ++ (k ∷ [])
            → cond s (b ∷ keep p (from (suc b) (suc n))) (keep p (from (suc b) (suc n))) ≡ cond s (b ∷ keep p (from (suc b) n)) (keep p (from (suc b) n)) ++ (k ∷ [])
        step true more = ap (λ r. b ∷ r) more
        step false more = more

pub keep_same : (p : ℕ → Bool) (a k : ℕ) → a ≤ k → p k ≡ false → keep p (up_to a (k + 1)) ≡ keep p (up_to a k)
keep_same p a k h e = let q : k + 1 - a ≡ suc (k - a) = omega arith in rw q (go (k - a) a (omega arith))
  where
    go : (n b : ℕ) → b + n ≡ k → keep p (from b (suc n)) ≡ keep p (from b n)
    go zero b z = let y : b ≡ k = omega (arith, z) in rw (y, e)
    go (suc n) b z = step (p b) (go n (suc b) (omega (arith, z)))
      where
        step : (s : Bool) → keep p (from (suc b) (suc n)) ≡ keep p (from (suc b) n)
            → cond s (b ∷ keep p (from (suc b) (suc n))) (keep p (from (suc b) (suc n))) ≡ cond s (b ∷ keep p (from (suc b) n)) (keep p (from (suc b) n))
        step true more = ap (λ r. b ∷ r) more
        step false more = more

-- there are no more than there are numbers
pub keep_length : (p : ℕ → Bool) (a n : ℕ) → length (keep p (from a n)) ≤ n
keep_length p a zero = omega arith
keep_length p a (suc n) = go (p a) (keep_length p (suc a) n)
  where
    go : (s : Bool) → length (keep p (from (suc a) n)) ≤ n → length (cond s (a ∷ keep p (from (suc a) n)) (keep p (from (suc a) n))) ≤ suc n
    go true more = omega arith
    go false more = omega arith

pub keep_all : (n a : ℕ) → keep (λ r. true) (from a n) ≡ from a n
keep_all zero a = refl
keep_all (suc n) a = ap (λ r. a ∷ r) (keep_all n (suc a))

pub keep_none : (n a : ℕ) → keep (λ r. false) (from a n) ≡ []
keep_none zero a = refl
keep_none (suc n) a = keep_none n (suc a)

-- two tests that agree there
pub keep_alike : (p q : ℕ → Bool) (k n : ℕ) → ((r : ℕ) → r < n → p r ≡ q r) → keep p (up_to k n) ≡ keep q (up_to k n)
keep_alike p q k n e = go (n - k) k (omega arith)
  where
    go : (m a : ℕ) → a + m ≤ max n a → keep p (from a m) ≡ keep q (from a m)
    go zero a h = refl
    go (suc m) a h = ap₂ (λ b r. cond b (a ∷ r) r) (e a (omega arith)) (go m (suc a) (omega arith))

-- numbers that don't pass, before and behind
pub keep_skip : (p : ℕ → Bool) (n m a : ℕ) → a + m ≤ n → ((r : ℕ) → a ≤ r → r < a + m → p r ≡ false) → keep p (up_to a n) ≡ keep p (up_to (a + m) n)
keep_skip p n zero a h f = let z : a ≡ a + 0 = omega arith in ap (λ k. keep p (up_to k n)) z
keep_skip p n (suc m) a h f =
    let z : a + 1 + m ≡ a + suc m = omega arith in
    keep_no p a n (omega arith) (f a (omega arith) (omega arith)) ∙ keep_skip p n m (a + 1) (omega arith) (λ r q s. f r (omega arith) (omega arith)) ∙ ap (λ k. keep p (up_to k n)) z

pub keep_cut : (p : ℕ → Bool) (a k m : ℕ) → a ≤ k → ((r : ℕ) → k ≤ r → r < k + m → p r ≡ false) → keep p (up_to a (k + m)) ≡ keep p (up_to a k)
keep_cut p a k zero h f = let z : k + 0 ≡ k = omega arith in ap (λ b. keep p (up_to a b)) z
keep_cut p a k (suc m) h f =
    let z : k + suc m ≡ k + m + 1 = omega arith in
    ap (λ b. keep p (up_to a b)) z ∙ keep_same p a (k + m) (omega arith) (f (k + m) (omega arith) (omega arith)) ∙ keep_cut p a k m h (λ r q s. f r q (omega arith))

-- the first that passes
pub first_here : (p : ℕ → Bool) (k n : ℕ) → k < n → p k ≡ true → first (keep p (up_to k n)) ≡ Some k
first_here p k n h e = ap first (keep_yes p k n h e)

pub first_next : (p : ℕ → Bool) (k n : ℕ) → k < n → p k ≡ false → first (keep p (up_to k n)) ≡ first (keep p (up_to (k + 1) n))
first_next p k n h e = ap first (keep_no p k n h e)

pub first_end : (p : ℕ → Bool) (k n : ℕ) → n ≤ k → first (keep p (up_to k n)) ≡ None
first_end p k n h = ap first (keep_end p k n h)

-- whether one passes
pub some_yes : (p : ℕ → Bool) (k n : ℕ) → k < n → p k ≡ true → some_of p (up_to k n) ≡ true
some_yes p k n h e = rw (up_to_next k n h) (rw e)

pub some_no : (p : ℕ → Bool) (k n : ℕ) → k < n → p k ≡ false → some_of p (up_to k n) ≡ some_of p (up_to (k + 1) n)
some_no p k n h e = rw (up_to_next k n h) (rw e)

pub some_end : (p : ℕ → Bool) (k n : ℕ) → n ≤ k → some_of p (up_to k n) ≡ false
some_end p k n h = rw (up_to_end k n h)

pub each_next : {B : Type 0} (f : ℕ → List B) (k n : ℕ) → k < n → each f (up_to k n) ≡ f k ++ each f (up_to (k + 1) n)
each_next f k n h = rw (up_to_next k n h)

pub each_end : {B : Type 0} (f : ℕ → List B) (k n : ℕ) → n ≤ k → each f (up_to k n) ≡ []
each_end f k n h = rw (up_to_end k n h)

pub sum_next : (f : ℕ → ℕ) (k n : ℕ) → k < n → sum f (up_to k n) ≡ f k + sum f (up_to (k + 1) n)
sum_next f k n h = rw (up_to_next k n h)

pub sum_end : (f : ℕ → ℕ) (k n : ℕ) → n ≤ k → sum f (up_to k n) ≡ 0
sum_end f k n h = rw (up_to_end k n h)

-- ---- places a up to b of those that pass: `seen` of them stood before k

abbrev pub window : (ℕ → Bool) → ℕ → ℕ → ℕ → ℕ → ℕ → List ℕ
window p n a b seen k = take (b - max a seen) (drop (a - seen) (keep p (up_to k n)))

pub window_all : (p : ℕ → Bool) (n a b : ℕ) → window p n a b 0 0 ≡ part a b (keep p (from 0 n))
window_all p n a b =
    let q : a - 0 ≡ a = omega arith in
    let m : max a 0 ≡ a = omega arith in
    rw (q, m, up_to_all n)

pub window_no : (p : ℕ → Bool) (n a b seen k : ℕ) → k < n → p k ≡ false → window p n a b seen k ≡ window p n a b seen (k + 1)
window_no p n a b seen k h e = rw (keep_no p k n h e)

-- one before the part
pub window_skip : (p : ℕ → Bool) (n a b seen k : ℕ) → k < n → p k ≡ true → seen < a → window p n a b seen k ≡ window p n a b (seen + 1) (k + 1)
window_skip p n a b seen k h e q =
    let s : a - seen ≡ suc (a - (seen + 1)) = omega arith in
    let m : max a seen ≡ max a (seen + 1) = omega arith in
    rw (keep_yes p k n h e, s, m)

-- one of the part
pub window_yes : (p : ℕ → Bool) (n a b seen k : ℕ) → k < n → p k ≡ true → a ≤ seen → seen < b → window p n a b seen k ≡ k ∷ window p n a b (seen + 1) (k + 1)
window_yes p n a b seen k h e q r =
    let s : a - seen ≡ 0 = omega arith in
    let s₂ : a - (seen + 1) ≡ 0 = omega arith in
    let m : b - max a seen ≡ suc (b - max a (seen + 1)) = omega arith in
    rw (keep_yes p k n h e, s, s₂, m)

-- the part is over
pub window_past : (p : ℕ → Bool) (n a b seen k : ℕ) → b ≤ seen → window p n a b seen k ≡ []
window_past p n a b seen k h = let m : b - max a seen ≡ 0 = omega arith in rw m

pub window_end : (p : ℕ → Bool) (n a b seen k : ℕ) → n ≤ k → window p n a b seen k ≡ []
window_end p n a b seen k h = rw (keep_end p k n h, drop-nil (a - seen), take-nil (b - max a seen))

-- ---- a list from place i on

pub drop_next : {A : Type 0} (xs : List A) (i : ℕ) (d : A) → i < length xs → drop i xs ≡ get_or xs i d ∷ drop (i + 1) xs
drop_next xs i d h = rw (add-one, drop-cons xs i d h)

pub each_at : {A B : Type 0} (f : A → List B) (xs : List A) (i : ℕ) (d : A) → i < length xs → each f (drop i xs) ≡ f (get_or xs i d) ++ each f (drop (i + 1) xs)
each_at f xs i d h = rw (drop_next xs i d h)

pub each_past : {A B : Type 0} (f : A → List B) (xs : List A) (i : ℕ) → length xs ≤ i → each f (drop i xs) ≡ []
each_past f xs i h = rw (drop_of_length-le xs h)

pub sum_at : {A : Type 0} (f : A → ℕ) (xs : List A) (i : ℕ) (d : A) → i < length xs → sum f (drop i xs) ≡ f (get_or xs i d) + sum f (drop (i + 1) xs)
sum_at f xs i d h = rw (drop_next xs i d h)

pub sum_past : {A : Type 0} (f : A → ℕ) (xs : List A) (i : ℕ) → length xs ≤ i → sum f (drop i xs) ≡ 0
sum_past f xs i h = rw (drop_of_length-le xs h)

pub some_at : {A : Type 0} (p : A → Bool) (xs : List A) (i : ℕ) (d : A) → i < length xs → p (get_or xs i d) ≡ true → some_of p (drop i xs) ≡ true
some_at p xs i d h e = rw (drop_next xs i d h) (rw e)

pub some_not_at : {A : Type 0} (p : A → Bool) (xs : List A) (i : ℕ) (d : A) → i < length xs → p (get_or xs i d) ≡ false → some_of p (drop i xs) ≡ some_of p (drop (i + 1) xs)
some_not_at p xs i d h e = rw (drop_next xs i d h) (rw e)

pub some_past : {A : Type 0} (p : A → Bool) (xs : List A) (i : ℕ) → length xs ≤ i → some_of p (drop i xs) ≡ false
some_past p xs i h = rw (drop_of_length-le xs h)

pub some_append : {A : Type 0} (p : A → Bool) (xs ys : List A) → some_of p (xs ++ ys) ≡ some_of p xs || some_of p ys
some_append p [] ys = refl
some_append p (x ∷ xs) ys = ap (λ b. p x || b) (some_append p xs ys) ∙ sym (or_assoc (p x) (some_of p xs) (some_of p ys))

some_shift : (p : ℕ → Bool) (n a : ℕ) → some_of p (from (suc a) n) ≡ some_of (λ i. p (suc i)) (from a n)
some_shift p zero a = refl
some_shift p (suc n) a = ap (λ b. p (suc a) || b) (some_shift p n (suc a))

some_from : {A : Type 0} (p : A → Bool) (d : A) (xs : List A) → some_of (λ i. p (get_or xs i d)) (from 0 (length xs)) ≡ some_of p xs
some_from p d [] = refl
some_from p d (x ∷ xs) = ap (λ b. p x || b) (some_shift (λ i. p (get_or (x ∷ xs) i d)) (length xs) 0 ∙ some_from p d xs)

-- whether the element at a place passes, and whether one of the list does
pub some_place : {A : Type 0} (p : A → Bool) (d : A) (xs : List A) → some_of (λ i. p (get_or xs i d)) (up_to 0 (length xs)) ≡ some_of p xs
some_place p d xs = ap (some_of (λ i. p (get_or xs i d))) (up_to_all (length xs)) ∙ some_from p d xs

-- ---- each over lists put together

pub each_append : {A B : Type 0} (f : A → List B) (xs ys : List A) → each f (xs ++ ys) ≡ each f xs ++ each f ys
each_append f [] ys = refl
each_append f (x ∷ xs) ys = ap (λ r. f x ++ r) (each_append f xs ys) ∙ sym (append_assoc (f x) (each f xs) (each f ys))

pub each_map : {A B C : Type 0} (f : B → List C) (g : A → B) (xs : List A) → each f (map g xs) ≡ each (λ x. f (g x)) xs
each_map f g [] = refl
each_map f g (x ∷ xs) = ap (λ r. f (g x) ++ r) (each_map f g xs)

pub each_each : {A B C : Type 0} (f : B → List C) (g : A → List B) (xs : List A) → each f (each g xs) ≡ each (λ x. each f (g x)) xs
each_each f g [] = refl
each_each f g (x ∷ xs) = each_append f (g x) (each g xs) ∙ ap (λ r. each f (g x) ++ r) (each_each f g xs)

pub each_same : {A B : Type 0} (f g : A → List B) (xs : List A) → ((x : A) → f x ≡ g x) → each f xs ≡ each g xs
each_same f g [] e = refl
each_same f g (x ∷ xs) e = ap₂ ◌++◌ (e x) (each_same f g xs e)
