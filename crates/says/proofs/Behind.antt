-- Walks whose test looks at the items behind an item, or at its number.
use Prim.Native.Nat.{ℕ, suc, ◌+◌, ◌-◌, ◌≤◌, ◌<◌}
use mathlib.Core.Path.{◌≡◌, refl, sym, ◌∙◌, ap}
use mathlib.Core.List.{List, [], ◌∷◌}
use mathlib.Core.Bool.{Bool, true, false}
use native.Mathlib.Omega.{arith}
use lib.ListN.{length, get_or}
use Rattle.codec.specs.Codec.{Codec, pick, le_c, list_c}
use Rattle.codec.specs.Skip.{skip, steps, count_at, Is}
use Rattle.codec.specs.Limits.{any_of}
use Rattle.format.specs.Words.{any_from}
use Rattle.says.specs.Says.{Says, Rest, Exactly, SaysRest, SaysBefore, any_before}
use Rattle.says.proofs.Walk.{rest_start, rest_again, rest_found, rest_done}

-- the first of what is left, and the rest behind it
pub cut : {A : Type 0} (C : Codec A) (b : List ℕ) (e : ℕ) (P : List A → Type 0) (G : Type 0) (n p q : ℕ) → Rest C b e P n p → 0 < n → q ≡ skip C b p e
    → ((x : A) (xs : List A) → Is C b e p x → P (x ∷ xs) → Rest C b e (Exactly xs) (n - 1) q → G) → G
unfolding steps
cut {A} C b e P G n p q r h i k = go r.items r.count r.item r.holds
  where
    go : (vs : List A) → length vs ≡ n → ((i : ℕ) (d : A) → i < length vs → Is C b e (steps C b e i p) (get_or vs i d)) → P vs → G
    go [] c f m = absurd (omega arith)
    go (x ∷ xs) c f m = k x xs (f 0 x (omega arith)) m (record { items = xs; count = omega arith; item = rw i (λ j d l. f (suc j) d (omega arith)); holds = refl })

pub rest_as : {A : Type 0} (C : Codec A) (b : List ℕ) (e : ℕ) (P Q : List A → Type 0) (n p : ℕ) → Rest C b e P n p → ((us : List A) → P us → Q us) → Rest C b e Q n p
rest_as C b e P Q n p r k = record { items = r.items; count = r.count; item = r.item; holds = k r.items r.holds }

-- the answer for what was there at first is the answer for what is left
abbrev pub Same : {A B : Type 0} → (List A → B) → List A → List A → Type 0
Same f ws us = f ws ≡ f us

abbrev pub Still : {A B : Type 0} → Codec A → List ℕ → ℕ → ℕ → ℕ → (List A → B) → ℕ → ℕ → Type 0
Still {A} C b e n₀ p₀ f n p = (ws : List A) → Rest C b e (Exactly ws) n₀ p₀ → Rest C b e (Same f ws) n p

-- f tells whether some item passes u
module _ {A : Type 0} (C : Codec A) (b : List ℕ) (e n₀ p₀ : ℕ) (f : List A → Bool) where
  pub still_start : Still C b e n₀ p₀ f n₀ p₀
  still_start ws r = rest_as C b e (Exactly ws) (Same f ws) n₀ p₀ r (λ us q. ap f (sym q))

  module _ (u : A → Bool) (step : (y : A) (ys : List A) → f (y ∷ ys) ≡ pick (u y) true (f ys)) where
    pub still_again : (n p q : ℕ) (r : Bool) → Still C b e n₀ p₀ f n p → 0 < n → q ≡ skip C b p e → Says C b e p u r → r ≡ false → Still C b e n₀ p₀ f (n - 1) q
    still_again n p q r d h i s k ws w = rest_again C b e (Same f ws) (Same f ws) n p q (d ws w) h i (λ y ys l m. m ∙ step y ys ∙ rw (← s y l, k))

    pub still_found : (n p : ℕ) (r : Bool) → Still C b e n₀ p₀ f n p → 0 < n → Says C b e p u r → r ≡ true → SaysRest C b e n₀ p₀ f true
    still_found n p r d h s k ws w = rest_found C b e (Same f ws) _ n p (d ws w) h (λ y ys l m. sym (m ∙ step y ys ∙ rw (← s y l, k)))

  pub still_none : f [] ≡ false → (n p : ℕ) → Still C b e n₀ p₀ f n p → n ≤ 0 → SaysRest C b e n₀ p₀ f false
  still_none z n p d h ws w = sym (rest_done C b e (Same f ws) n p (d ws w) h ∙ z)

pub any_step : {A : Type 0} (f : A → Bool) (y : A) (ys : List A) → any_of f (y ∷ ys) ≡ pick (f y) true (any_of f ys)
unfolding any_of
any_step f y ys = refl

pub any_nil : {A : Type 0} (f : A → Bool) → any_of f [] ≡ false
unfolding any_of
any_nil f = refl

-- an answer for one test of lists is one for another that says the same
pub rest_says : {A : Type 0} (C : Codec A) (b : List ℕ) (e n p : ℕ) (f g : List A → Bool) (r : Bool) → SaysRest C b e n p f r → ((vs : List A) → f vs ≡ g vs) → SaysRest C b e n p g r
rest_says C b e n p f g r s h ws w = s ws w ∙ h ws

-- g tells whether some item passes u, which looks at the items behind it
abbrev pub NoneBehind : {A : Type 0} → Codec A → List ℕ → ℕ → ℕ → (List A → Bool) → ℕ → ℕ → Type 0
NoneBehind {A} C b e at g n p = (vs : List A) → Is (list_c C) b e at vs → Rest C b e (Same g vs) n p

module _ {A : Type 0} (C : Codec A) (b : List ℕ) (e at : ℕ) (g : List A → Bool) where
  pub behind_start : (n p : ℕ) → n ≡ count_at b at e → p ≡ skip (le_c 4) b at e → NoneBehind C b e at g n p
  behind_start n p h i vs j = rest_start C b e (Same g vs) at n p vs h i j refl

  module _ (u : List A → A → Bool) (step : (y : A) (ys : List A) → g (y ∷ ys) ≡ pick (u ys y) true (g ys)) where
    pub behind_again : (n p q : ℕ) (r : Bool) → NoneBehind C b e at g n p → 0 < n → q ≡ skip C b p e → SaysBefore C b e p (n - 1) q u r → r ≡ false → NoneBehind C b e at g (n - 1) q
    behind_again n p q r d h i s t vs j = cut C b e (Same g vs) _ n p q (d vs j) h i
        (λ y ys l m w. rest_as C b e (Exactly ys) (Same g vs) (n - 1) q w
        (λ us o. let z : u ys y ≡ false = sym (s ys w y l) ∙ t in m ∙ step y ys ∙ rw z (ap g (sym o))))

    pub behind_found : (n p q : ℕ) (r : Bool) → NoneBehind C b e at g n p → 0 < n → q ≡ skip C b p e → SaysBefore C b e p (n - 1) q u r → r ≡ true → Says (list_c C) b e at g true
    behind_found n p q r d h i s t vs j = cut C b e (Same g vs) _ n p q (d vs j) h i
        (λ y ys l m w. let z : u ys y ≡ true = sym (s ys w y l) ∙ t in sym (m ∙ step y ys ∙ rw z))

  pub behind_none : g [] ≡ false → (n p : ℕ) → NoneBehind C b e at g n p → n ≤ 0 → Says (list_c C) b e at g false
  behind_none z n p d h vs j = sym (rest_done C b e (Same g vs) n p (d vs j) h ∙ z)

pub before_step : {A : Type 0} (u : List A → A → Bool) (y : A) (ys : List A) → any_before u (y ∷ ys) ≡ pick (u ys y) true (any_before u ys)
unfolding any_before
before_step u y ys = refl

pub before_nil : {A : Type 0} (u : List A → A → Bool) → any_before u [] ≡ false
unfolding any_before
before_nil u = refl

-- ---- tests with an item's number
abbrev pub Numbered : {A : Type 0} → (ℕ → A → Bool) → List A → ℕ → List A → Type 0
Numbered f vs k us = any_from f 0 vs ≡ any_from f k us

-- a walk that has met none yet; the next item's number is k
abbrev pub NoneUpTo : {A : Type 0} → Codec A → List ℕ → ℕ → ℕ → (ℕ → A → Bool) → ℕ → ℕ → ℕ → Type 0
NoneUpTo {A} C b e at f k n p = (vs : List A) → Is (list_c C) b e at vs → Rest C b e (Numbered f vs k) n p

module _ {A : Type 0} (C : Codec A) (b : List ℕ) (e at : ℕ) (f : ℕ → A → Bool) where
  pub from_start : (n p : ℕ) → n ≡ count_at b at e → p ≡ skip (le_c 4) b at e → NoneUpTo C b e at f 0 n p
  from_start n p h i vs j = rest_start C b e (Numbered f vs 0) at n p vs h i j refl

  pub from_again : (k n p q : ℕ) (r : Bool) → NoneUpTo C b e at f k n p → 0 < n → q ≡ skip C b p e → Says C b e p (f k) r → r ≡ false → NoneUpTo C b e at f (k + 1) (n - 1) q
  unfolding any_from
  from_again k n p q r d h i s t vs j = rest_again C b e (Numbered f vs k) (Numbered f vs (k + 1)) n p q (d vs j) h i (λ x xs l m. m ∙ rw (← s x l, t))

  pub from_found : (k n p : ℕ) (r : Bool) → NoneUpTo C b e at f k n p → 0 < n → Says C b e p (f k) r → r ≡ true → Says (list_c C) b e at (any_from f 0) true
  unfolding any_from
  from_found k n p r d h s t vs j = rest_found C b e (Numbered f vs k) _ n p (d vs j) h (λ x xs l m. sym (m ∙ rw (← s x l, t)))

  pub from_none : (k n p : ℕ) → NoneUpTo C b e at f k n p → n ≤ 0 → Says (list_c C) b e at (any_from f 0) false
  unfolding any_from
  from_none k n p d h vs j = sym (rest_done C b e (Numbered f vs k) n p (d vs j) h)
