-- What tests that look for something wrong say, put together; and small laws of reading.
use Prim.Native.Nat.{ℕ, ◌≤◌}
use mathlib.Core.Path.{◌≡◌, refl, sym, ◌∙◌}
use mathlib.Core.Logic.{◌≢◌, ◌⊎◌, inl, inr}
use mathlib.Core.List.{List, [], ◌∷◌}
use mathlib.Core.Bool.{Bool, true, false, not}
use native.Mathlib.Omega.{arith}
use Rattle.std.specs.Prelude.{Option, None, Some}
use lib.Dec.{eqb}
use borrow.Author.Tests.{ltb-false, eqb-true, le-ltb, eq-eqb}
use Rattle.codec.specs.Codec.{pick}
use Rattle.codec.specs.Skip.{count_at, Is}
use Rattle.codec.specs.Forms.{num_c}
use Rattle.codec.specs.Limits.{any, any_of}
use Rattle.format.specs.Words.{if_some}
use Rattle.format.specs.Spec.{Control}
use Rattle.nest.specs.Lists.{All}
use Rattle.complete.specs.Complete.{IfThere}
use Rattle.says.proofs.Walk.{number_is, both, only}
use Rattle.codes.proofs.Refutes.{Refutes}
use Rattle.complete.specs.Decides.{Decides}
use Rattle.codes.specs.Rules.{low, wrong_control}

-- two numbers that stand at places are compared
pub same_numbers : (b : List ℕ) (e n m p q p' q' v w : ℕ) → n ≡ count_at b p e → m ≡ count_at b q e → p ≡ p' → q ≡ q' → Is num_c b e p' v → Is num_c b e q' w → eqb n m ≡ eqb v w
same_numbers b e n m p q p' q' v w h i j k l o = rw (number_is b e n p p' v h j l, number_is b e m q q' w i k o)

pub no_way : {P : Type 0} → true ≡ false → P
no_way h = absurd (let z : ◌≡◌ {A = ℕ} 0 1 = cc in omega arith)

pub decided : (t : Bool) (P : Type 0) → Refutes t P → Decides (not t) P
decided true P h = (λ i. no_way (sym i), λ i. h.1 refl)
decided false P h = (λ i. h.0 refl, λ i. no_way i)

pub refute_as : (t : Bool) (P Q : Type 0) → (P → Q) → (Q → P) → Refutes t P → Refutes t Q
refute_as t P Q f g h = (λ i. f (h.0 i), λ i q. h.1 i (g q))

pub refute_either : (s t : Bool) (P Q : Type 0) → Refutes s P → Refutes t Q → Refutes (pick s true t) (P × Q)
refute_either true t P Q h k = (λ i. no_way i, λ i q. h.1 refl q.0)
refute_either false t P Q h k = (λ i. (h.0 refl, k.0 i), λ i q. k.1 i q.1)

pub refute_any : (s : Bool) (ts : List Bool) (P Q : Type 0) → Refutes s P → Refutes (any ts) Q → Refutes (any (s ∷ ts)) (P × Q)
unfolding any
refute_any s ts P Q h k = refute_either s (any ts) P Q h k

pub refute_none : Refutes (any []) (Unit {0})
unfolding any
refute_none = (λ i. tt, λ i. no_way (sym i))

pub refute_all : {A : Type 0} (f : A → Bool) (P : A → Type 0) → ((x : A) → Refutes (f x) (P x)) → (xs : List A) → Refutes (any_of f xs) (All P xs)
unfolding any_of
refute_all f P h [] = (λ i. tt, λ i. no_way (sym i))
refute_all f P h (x ∷ xs) = refute_either (f x) (any_of f xs) (P x) (All P xs) (h x) (refute_all f P h xs)

pub refute_there : {A : Type 0} (f : A → Bool) (P : A → Type 0) → ((x : A) → Refutes (f x) (P x)) → (o : Option A) → Refutes (if_some f o) (IfThere P o)
unfolding if_some
refute_there f P h None = (λ i. tt, λ i. no_way (sym i))
refute_there f P h (Some x) = h x

pub refute_low : (n : ℕ) → Refutes (low n) (1 ≤ n)
unfolding low
refute_low n = (λ i. ltb-false _ _ i, λ i h. no_way (sym i ∙ le-ltb _ _ h))

pub refute_same : (n m : ℕ) → Refutes (eqb n m) (n ≢ m)
refute_same n m = (λ i h. no_way (sym (eq-eqb _ _ h) ∙ i), λ i h. h (eqb-true _ _ i))

-- x is the first of two tests, and the second is made where x finds nothing
pub either_first : (x s t : Bool) → x ≡ s → x ≡ true → x ≡ pick s true t
either_first x s t h i = let z : s ≡ true = sym h ∙ i in rw (i, z)

pub either_next : (x s y t : Bool) → x ≡ s → x ≡ false → y ≡ t → y ≡ pick s true t
either_next x s y t h i j = let z : s ≡ false = sym h ∙ i in rw z j

-- the same of a list of tests
pub found_first : (x s : Bool) (ts : List Bool) → x ≡ s → x ≡ true → x ≡ any (s ∷ ts)
unfolding any
found_first x s ts h i = either_first x s (any ts) h i

pub found_next : (x s : Bool) (ts : List Bool) → x ≡ s → x ≡ false → {y : Bool} → y ≡ any ts → y ≡ any (s ∷ ts)
unfolding any
found_next x s ts h i {y} j = either_next x s y (any ts) h i j

pub one_of_three : (x y z u : Bool) → (x ≡ true) ⊎ (((x ≡ false) × (y ≡ true)) ⊎ ((x ≡ false) × (y ≡ false) × (z ≡ true))) → pick x true (pick y true (pick z true u)) ≡ true
one_of_three x y z u (inl h) = rw h
one_of_three x y z u (inr (inl h)) = rw (h.0, h.1)
one_of_three x y z u (inr (inr h)) = rw (h.0, h.1, h.2)

pub control_says : (c : Control) (x y z u r : Bool) → x ≡ low c.opener → y ≡ low c.closer → z ≡ low c.count → u ≡ eqb c.closer c.count → r ≡ pick x true (pick y true (pick z true u)) → r ≡ wrong_control c
unfolding wrong_control
control_says c x y z u r h i j k l = both _ _ _ _ _ l h (both _ _ _ _ _ refl i (both _ _ _ _ _ refl j (only _ _ k)))
