-- Small words on lists, numbers and tests that the definitions below share.
use Rattle.std.specs.Prelude.{ℕ, zero, suc, ◌+◌, ◌-◌, Bool, true, false, cond, ◌||◌, List, [], ◌∷◌, ◌++◌, take, drop, eqb, Option, None, Some}

-- a test as a number: 1 where it passes
abbrev pub once : Bool → ℕ
once true = 1
once false = 0

-- f of each element, one after the other
abbrev pub each : {A B : Type 0} → (A → List B) → List A → List B
each f [] = []
each f (x ∷ xs) = f x ++ each f xs

-- the elements that pass
abbrev pub keep : {A : Type 0} → (A → Bool) → List A → List A
keep p [] = []
keep p (x ∷ xs) = cond (p x) (x ∷ keep p xs) (keep p xs)

-- whether one passes
abbrev pub some_of : {A : Type 0} → (A → Bool) → List A → Bool
some_of p [] = false
some_of p (x ∷ xs) = p x || some_of p xs

abbrev pub is_empty_list : {A : Type 0} → List A → Bool
is_empty_list [] = true
is_empty_list (x ∷ xs) = false

-- f of what is there, or else d
abbrev pub on : {A B : Type 0} → Option A → (A → B) → B → B
on None f d = d
on (Some a) f d = f a

abbrev pub first : {A : Type 0} → List A → Option A
first [] = None
first (x ∷ xs) = Some x

-- n numbers from a on
abbrev pub from : ℕ → ℕ → List ℕ
from a zero = []
from a (suc n) = a ∷ from (suc a) n

-- whether a number is there and is k
abbrev pub is : Option ℕ → ℕ → Bool
is None k = false
is (Some n) k = eqb k n

-- places a up to b of a list
abbrev pub part : {A : Type 0} → ℕ → ℕ → List A → List A
part a b xs = take (b - a) (drop a xs)

abbrev pub sum : {A : Type 0} → (A → ℕ) → List A → ℕ
sum f [] = 0
sum f (x ∷ xs) = f x + sum f xs

-- how often k stands in a list
abbrev pub times : ℕ → List ℕ → ℕ
times k = sum (λ x. once (eqb x k))

-- every element is so
abbrev pub All : {A : Type 0} → (A → Type 0) → List A → Type 0
All P [] = Unit {0}
All P (x ∷ xs) = P x × All P xs
