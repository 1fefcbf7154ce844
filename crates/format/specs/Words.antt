-- The words that the refusals are told in.
use Rattle.std.specs.Prelude.{ℕ, zero, suc, ◌+◌, List, [], ◌∷◌, Bool, true, false, leb, eqb, Option, None, Some}
use Rattle.codec.specs.Codec.{pick}

-- some item passes the test, which also has the item's number; k is the number of the first
unfoldable pub any_from : {A : Type 0} → (ℕ → A → Bool) → ℕ → List A → Bool
any_from f k [] = false
any_from f k (x ∷ xs) = pick (f k x) true (any_from f (k + 1) xs)

-- every item passes the test
unfoldable pub all_of : {A : Type 0} → (A → Bool) → List A → Bool
all_of f [] = true
all_of f (x ∷ xs) = pick (f x) (all_of f xs) false

-- there is a value, and it passes the test
unfoldable pub if_some : {A : Type 0} → (A → Bool) → Option A → Bool
if_some f None = false
if_some f (Some x) = f x

unfoldable pub present : {A : Type 0} → Option A → Bool
present None = false
present (Some x) = true

-- how often n is in a list of numbers
unfoldable pub times_in : ℕ → List ℕ → ℕ
times_in n [] = 0
times_in n (x ∷ xs) = pick (eqb n x) (times_in n xs + 1) (times_in n xs)

unfoldable pub member_of : ℕ → List ℕ → Bool
member_of n [] = false
member_of n (x ∷ xs) = pick (eqb n x) true (member_of n xs)

-- some number stands in the list twice
unfoldable pub repeats : List ℕ → Bool
repeats [] = false
repeats (x ∷ xs) = pick (member_of x xs) true (repeats xs)

-- f, n times over
unfoldable pub times : {A : Type 0} → ℕ → (A → A) → A → A
times zero f x = x
times (suc n) f x = times n f (f x)

-- from low to high, both included
abbrev pub between : ℕ → ℕ → ℕ → Bool
between low high n = pick (leb low n) (leb n high) false
