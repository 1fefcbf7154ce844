-- What holds of all elements of a list holds of all of the lists made from it.
use Prim.Native.Nat.{ℕ, zero, suc, ◌+◌, ◌≤◌, ◌<◌}
use mathlib.Core.Path.{◌≡◌, refl}
use mathlib.Core.Bool.{Bool, true, false, cond}
use mathlib.Core.List.{List, [], ◌∷◌, ◌++◌, map}
use native.Mathlib.Omega.{arith}
use lib.ListN.{take, drop}
use Rattle.nest.specs.Lists.{each, keep, from, All}

pub all_append : {A : Type 0} (P : A → Type 0) (xs ys : List A) → All P xs → All P ys → All P (xs ++ ys)
all_append P [] ys h k = k
all_append P (x ∷ xs) ys h k = (h.0, all_append P xs ys h.1 k)

pub all_each : {A B : Type 0} (P : B → Type 0) (Q : A → Type 0) (f : A → List B) (xs : List A) → ((x : A) → Q x → All P (f x)) → All Q xs → All P (each f xs)
all_each P Q f [] g h = tt
all_each P Q f (x ∷ xs) g h = all_append P (f x) (each f xs) (g x h.0) (all_each P Q f xs g h.1)

pub all_map : {A B : Type 0} (P : B → Type 0) (Q : A → Type 0) (f : A → B) (xs : List A) → ((x : A) → Q x → P (f x)) → All Q xs → All P (map f xs)
all_map P Q f [] g h = tt
all_map P Q f (x ∷ xs) g h = (g x h.0, all_map P Q f xs g h.1)

pub any : {A : Type 0} (xs : List A) → All (λ x. Unit {0}) xs
any [] = tt
any (x ∷ xs) = (tt, any xs)

pub all_take : {A : Type 0} (P : A → Type 0) (n : ℕ) (xs : List A) → All P xs → All P (take n xs)
all_take P zero xs h = tt
all_take P (suc n) [] h = tt
all_take P (suc n) (x ∷ xs) h = (h.0, all_take P n xs h.1)

pub all_drop : {A : Type 0} (P : A → Type 0) (n : ℕ) (xs : List A) → All P xs → All P (drop n xs)
all_drop P zero xs h = h
all_drop P (suc n) [] h = tt
all_drop P (suc n) (x ∷ xs) h = all_drop P n xs h.1

pub all_keep : (p : ℕ → Bool) (b n a : ℕ) → a + n ≤ b → All (λ x. (x < b) × (p x ≡ true)) (keep p (from a n))
all_keep p b zero a h = tt
all_keep p b (suc n) a h = go (p a) refl (all_keep p b n (suc a) (omega arith))
  where
    go : (s : Bool) → p a ≡ s → All (λ x. (x < b) × (p x ≡ true)) (keep p (from (suc a) n)) → All (λ x. (x < b) × (p x ≡ true)) (cond s (a ∷ keep p (from (suc a) n)) (keep p (from (suc a) n)))
    go true e more = ((omega arith, e), more)
    go false e more = more

pub all_from : (b n a : ℕ) → a + n ≤ b → All (λ x. x < b) (from a n)
all_from b zero a h = tt
all_from b (suc n) a h = (omega arith, all_from b n (suc a) (omega arith))

pub all_weaker : {A : Type 0} (P Q : A → Type 0) (xs : List A) → ((x : A) → P x → Q x) → All P xs → All Q xs
all_weaker P Q [] f h = tt
all_weaker P Q (x ∷ xs) f h = (f x h.0, all_weaker P Q xs f h.1)
