-- Tests over lists that are joined, and members.
use Prim.Native.Nat.{ℕ, zero, suc}
use mathlib.Core.Path.{◌≡◌, refl, sym, ap, ◌∙◌}
use mathlib.Core.Logic.{◌⊎◌, inl, inr}
use mathlib.Core.Bool.{Bool, true, false, ◌||◌, false≢true}
use mathlib.Core.List.{List, [], ◌∷◌, ◌++◌}
use lib.ListN.{get_or}
use Rattle.nest.specs.Lists.{some_of, each, All}
use Rattle.nest.proofs.Scan.{some_append}

pub none_left : (a b : Bool) → a || b ≡ false → a ≡ false
none_left false b h = refl
none_left true b h = h

pub none_right : (a b : Bool) → a || b ≡ false → b ≡ false
none_right false b h = h
none_right true b h = absurd (false≢true (sym h))

pub none_append : {A : Type 0} (p : A → Bool) (xs ys : List A) → some_of p (xs ++ ys) ≡ false → (some_of p xs ≡ false) × (some_of p ys ≡ false)
none_append p xs ys h =
    let k = sym (some_append p xs ys) ∙ h in
    (none_left (some_of p xs) (some_of p ys) k, none_right (some_of p xs) (some_of p ys) k)

pub none_each : {A B : Type 0} (p : B → Bool) (f : A → List B) (xs : List A) → ((x : A) → some_of p (f x) ≡ false) → some_of p (each f xs) ≡ false
none_each p f [] h = refl
none_each p f (x ∷ xs) h = some_append p (f x) (each f xs) ∙ ap (λ b. b || some_of p (each f xs)) (h x) ∙ none_each p f xs h

pub none_all : {A : Type 0} (p : A → Bool) (xs : List A) → some_of p xs ≡ false → All (λ x. p x ≡ false) xs
none_all p [] h = tt
none_all p (x ∷ xs) h = (none_left (p x) (some_of p xs) h, none_all p xs (none_right (p x) (some_of p xs) h))

-- what is so of all is so of the one at a place, or of what stands for one that is not there
pub all_get : {A : Type 0} (P : A → Type 0) (xs : List A) (d : A) → All P xs → P d → (i : ℕ) → P (get_or xs i d)
all_get P [] d h k i = k
all_get P (x ∷ xs) d h k zero = h.0
all_get P (x ∷ xs) d h k (suc i) = all_get P xs d h.1 k i

pub all_zip : {A : Type 0} (P Q R : A → Type 0) (xs : List A) → ((x : A) → P x → Q x → R x) → All P xs → All Q xs → All R xs
all_zip P Q R [] f h k = tt
all_zip P Q R (x ∷ xs) f h k = (f x h.0 k.0, all_zip P Q R xs f h.1 k.1)

-- ---- members

abbrev pub In : {A : Type 0} → A → List A → Type 0
In x [] = ⊥
In x (y ∷ ys) = (x ≡ y) ⊎ In x ys

pub all_in : {A : Type 0} (P : A → Type 0) (xs : List A) → All P xs → (x : A) → In x xs → P x
all_in P [] h x k = absurd k
all_in P (y ∷ ys) h x (inl e) = rw e h.0
all_in P (y ∷ ys) h x (inr k) = all_in P ys h.1 x k

pub in_all : {A : Type 0} (P : A → Type 0) (xs : List A) → ((x : A) → In x xs → P x) → All P xs
in_all P [] h = tt
in_all P (y ∷ ys) h = (h y (inl refl), in_all P ys (λ x k. h x (inr k)))
