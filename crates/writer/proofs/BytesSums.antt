-- Sums over lists, as the bounds on bytes take them apart.
use Prim.Native.Nat.{ℕ, ◌+◌, ◌*◌, ◌≤◌}
use mathlib.Core.Path.{◌≡◌, refl, sym}
use mathlib.Core.List.{List, [], ◌∷◌}
use native.Mathlib.Omega.{arith}
use native.Mathlib.Nat.{add-mul, mul-add, suc-mul}
use lib.ListN.{length}
use Rattle.nest.specs.Lists.{sum}
use Rattle.nest.proofs.Sums.{sum_zero}

module _ {A : Type 0} where
  pub sum_more : (k : ℕ) (f : A → ℕ) (xs : List A) → sum (λ x. k + f x) xs ≡ length xs * k + sum f xs
  sum_more k f [] = omega arith
  sum_more k f (x ∷ xs) = omega (arith, sum_more k f xs, suc-mul (length xs) k)

  pub sum_each_time : (k : ℕ) (xs : List A) → sum (λ x. k) xs ≡ length xs * k
  sum_each_time k [] = omega arith
  sum_each_time k (x ∷ xs) = omega (arith, sum_each_time k xs, suc-mul (length xs) k)

  pub sum_less : (f g : A → ℕ) → ((x : A) → f x ≤ g x) → (xs : List A) → sum f xs ≤ sum g xs
  sum_less f g h [] = omega arith
  sum_less f g h (x ∷ xs) = omega (arith, h x, sum_less f g h xs)

  pub sum_times : (k : ℕ) (f : A → ℕ) (xs : List A) → sum (λ x. k * f x) xs ≡ k * sum f xs
  sum_times k f [] = omega arith
  sum_times k f (x ∷ xs) = omega (arith, sum_times k f xs, mul-add k (f x) (sum f xs))

  pub sum_both : (f g : A → ℕ) (k : ℕ) (xs : List A) → sum (λ x. f x * k + g x) xs ≡ sum f xs * k + sum g xs
  sum_both f g k [] = omega arith
  sum_both f g k (x ∷ xs) = omega (arith, sum_both f g k xs, add-mul (f x) (sum f xs) k)

  sum_plus : (f g : A → ℕ) (xs : List A) → sum (λ x. f x + g x) xs ≡ sum f xs + sum g xs
  sum_plus f g [] = refl
  sum_plus f g (x ∷ xs) = omega (arith, sum_plus f g xs)

pub sum_swap : {A B : Type 0} (f : A → B → ℕ) (xs : List A) (ys : List B) → sum (λ x. sum (f x) ys) xs ≡ sum (λ y. sum (λ x. f x y) xs) ys
sum_swap f [] ys = sym (sum_zero (λ y. 0) ys (λ y. refl))
sum_swap f (x ∷ xs) ys = omega (arith, sum_swap f xs ys, sum_plus (f x) (λ y. sum (λ x. f x y) xs) ys)
