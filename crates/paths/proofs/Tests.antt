-- Tests over the places of a list, and how many pass, as tests over the list.
use Prim.Native.Nat.{ℕ, zero, suc, ◌+◌}
use mathlib.Core.Path.{◌≡◌, refl, sym, ap, ◌∙◌}
use mathlib.Core.Bool.{Bool, true, false, ◌&&◌, ◌||◌}
use mathlib.Core.List.{List, [], ◌∷◌, map}
use native.Mathlib.Omega.{arith}
use lib.ListN.{length, get_or}
use lib.Dec.{eqb, ltb}
use Rattle.std.proofs.Common.{lt-ltb}
use Rattle.nest.specs.Lists.{once, some_of, sum, times}
use Rattle.nest.specs.Outline as O
use Rattle.nest.specs.OfJob.{item_in}
use Rattle.format.specs.Layout.{Item, segment_item, loop_item}
use Rattle.walk.specs.Check.{each_of, each_below, how_many}
use Rattle.paths.specs.Tests.{same, same_item, segment_below, loop_named, segment_named, gives_number}

-- ---- a test of the places of a list

abbrev pub every : {A : Type 0} → (A → Bool) → List A → Bool
every p [] = true
every p (x ∷ xs) = p x && every p xs

swap : (a b c : Bool) → (a && (b && c)) ≡ (b && (a && c))
swap true b c = refl
swap false true c = refl
swap false false c = refl

each_shift : (n : ℕ) (p : ℕ → Bool) → each_below (suc n) p ≡ p 0 && each_below n (λ i. p (suc i))
each_shift zero p = refl
each_shift (suc n) p = ap (λ b. p (suc n) && b) (each_shift n p) ∙ swap (p (suc n)) (p 0) (each_below n (λ i. p (suc i)))

many_shift : (n : ℕ) (p : ℕ → Bool) → how_many (suc n) p ≡ once (p 0) + how_many n (λ i. p (suc i))
many_shift zero p = refl
many_shift (suc n) p = omega (arith, many_shift n p)

module _ {A : Type 0} (p : A → Bool) (d : A) where
  pub each_place : (xs : List A) → each_below (length xs) (λ i. p (get_or xs i d)) ≡ every p xs
  each_place [] = refl
  each_place (x ∷ xs) = each_shift (length xs) (λ i. p (get_or (x ∷ xs) i d)) ∙ ap (λ b. p x && b) (each_place xs)

  pub many_places : (f : A → ℕ) → ((x : A) → once (p x) ≡ f x) → (xs : List A) → how_many (length xs) (λ i. p (get_or xs i d)) ≡ sum f xs
  many_places f q [] = refl
  many_places f q (x ∷ xs) = omega (arith, many_shift (length xs) (λ i. p (get_or (x ∷ xs) i d)), many_places f q xs, q x)

-- a number that stands in a list stands there more than no times
some_once : (b s : Bool) (n : ℕ) → s ≡ ltb 0 n → (b || s) ≡ ltb 0 (once b + n)
some_once true s n h = sym (lt-ltb 0 (1 + n) (omega arith))
some_once false s n h = let z : 0 + n ≡ n = omega arith in rw z h

pub some_times : (k : ℕ) (xs : List ℕ) → some_of (λ x. eqb x k) xs ≡ ltb 0 (times k xs)
some_times k [] = refl
some_times k (x ∷ xs) = some_once (eqb x k) (some_of (λ y. eqb y k) xs) (times k xs) (some_times k xs)

pub each_every : (p : ℕ → Bool) (xs : List ℕ) → each_of xs p ≡ every p xs
each_every p [] = refl
each_every p (x ∷ xs) = ap (λ b. p x && b) (each_every p xs)

-- ---- items of an order

pub same_once : (x v : Item) → once (same x v) ≡ same_item x v
same_once (segment_item i) (segment_item k) = refl
same_once (segment_item i) (loop_item l) = refl
same_once (loop_item l) (segment_item k) = refl
same_once (loop_item l) (loop_item k) = refl

pub loop_once : (k : ℕ) (x : Item) → once (gives_number (loop_named x) k) ≡ same_item (loop_item k) x
loop_once k (segment_item i) = refl
loop_once k (loop_item l) = refl

pub segment_once : (k : ℕ) (x : Item) → once (gives_number (segment_named x) k) ≡ same_item (segment_item k) x
segment_once k (segment_item i) = refl
segment_once k (loop_item l) = refl

pub loop_times : (k : ℕ) (xs : List Item) → times k (O.item_loops (map item_in xs)) ≡ sum (same_item (loop_item k)) xs
loop_times k [] = refl
loop_times k (segment_item i ∷ xs) = omega (arith, loop_times k xs)
loop_times k (loop_item l ∷ xs) = ap (λ n. once (eqb l k) + n) (loop_times k xs)

pub segment_times : (k : ℕ) (xs : List Item) → times k (O.item_segments (map item_in xs)) ≡ sum (same_item (segment_item k)) xs
segment_times k [] = refl
segment_times k (segment_item i ∷ xs) = ap (λ n. once (eqb i k) + n) (segment_times k xs)
segment_times k (loop_item l ∷ xs) = omega (arith, segment_times k xs)

pub segments_below : (n : ℕ) (xs : List Item) → each_of (O.item_segments (map item_in xs)) (λ i. ltb i n) ≡ every (segment_below n) xs
segments_below n [] = refl
segments_below n (segment_item i ∷ xs) = ap (λ b. ltb i n && b) (segments_below n xs)
segments_below n (loop_item l ∷ xs) = segments_below n xs
