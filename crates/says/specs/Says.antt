-- Not to be believed: words of inner contracts, on which no contract of what users call rests.
-- What a test answers: of whatever stands at a place, what the definition says of it.
use Rattle.std.specs.Prelude.{ℕ, zero, suc, ◌<◌, ◌^◌, ◌≡◌, List, [], ◌∷◌, Bool, true, false, length, get_or, Option, Some, None}
use Rattle.codec.specs.Codec.{Codec, pick}
use Rattle.codec.specs.Skip.{Is, count_at, skip, steps}

abbrev pub Says : {A B : Type 0} → Codec A → List ℕ → ℕ → ℕ → (A → B) → B → Type 0
Says {A} C b e at f r = (v : A) → Is C b e at v → r ≡ f v

-- what a test answers that also steps: the place behind what it was asked of, if it found nothing there
abbrev pub Clears : {A : Type 0} → Codec A → List ℕ → ℕ → ℕ → (A → Bool) → Option ℕ → Type 0
Clears {A} C b e at f r = (v : A) → Is C b e at v → r ≡ pick (f v) None (Some (skip C b at e))

-- t, wherever it is asked, says of what stands there what f does
abbrev pub Tests : {A : Type 0} → Codec A → List ℕ → ℕ → (ℕ → Bool → Type 0) → (A → Bool) → Type 0
Tests C b e t f = (p : ℕ) (r : Bool) → p < 2 ^ 64 → t p r → Says C b e p f r

-- the same of a test that also steps
abbrev pub Clearing : {A : Type 0} → Codec A → List ℕ → ℕ → (ℕ → Option ℕ → Type 0) → (A → Bool) → Type 0
Clearing C b e t f = (p : ℕ) (r : Option ℕ) → p < 2 ^ 64 → t p r → Clears C b e p f r

-- ---- what is left of a list: n items from the place p on, and P holds of them
pub record Rest {A : Type 0} (C : Codec A) (b : List ℕ) (e : ℕ) (P : List A → Type 0) (n p : ℕ) : Type 0 where
  pub items : List A
  pub count : length items ≡ n
  pub item : (i : ℕ) (d : A) → i < length items → Is C b e (steps C b e i p) (get_or items i d)
  pub holds : P items

abbrev pub Exactly : {A : Type 0} → List A → List A → Type 0
Exactly ws us = us ≡ ws

-- what a walk over the rest answers of it
abbrev pub SaysRest : {A B : Type 0} → Codec A → List ℕ → ℕ → ℕ → ℕ → (List A → B) → B → Type 0
SaysRest {A} C b e n p f r = (ws : List A) → Rest C b e (Exactly ws) n p → r ≡ f ws

-- the test of the item at p, behind which m stand, from q on
abbrev pub SaysBefore : {A : Type 0} → Codec A → List ℕ → ℕ → ℕ → ℕ → ℕ → (List A → A → Bool) → Bool → Type 0
SaysBefore {A} C b e p m q u r = (ws : List A) → Rest C b e (Exactly ws) m q → Says C b e p (u ws) r

-- whether some item is found, by a test u of the items behind it and of it
unfoldable pub any_before : {A : Type 0} → (List A → A → Bool) → List A → Bool
any_before u [] = false
any_before u (x ∷ xs) = pick (u xs x) true (any_before u xs)

-- t, told a place, how many stand behind the item there and where they do, says what u does
abbrev pub TestsBefore : {A : Type 0} → Codec A → List ℕ → ℕ → (ℕ → ℕ → ℕ → Bool → Type 0) → (List A → A → Bool) → Type 0
TestsBefore C b e t u = (p m q : ℕ) (r : Bool) → p < 2 ^ 64 → m < 2 ^ 64 → q < 2 ^ 64 → t p m q r → SaysBefore C b e p m q u r

-- t, told the number of an item of the list at a place and where the item stands, says what f does
abbrev pub TestsNumbered : {A : Type 0} → Codec A → List ℕ → ℕ → ℕ → (ℕ → ℕ → Bool → Type 0) → (ℕ → A → Bool) → Type 0
TestsNumbered C b e at t f = (k p : ℕ) (r : Bool) → k < count_at b at e → p < 2 ^ 64 → t k p r → Says C b e p (f k) r

-- ---- what is asked, whatever stands there: n places from p on, one behind the other; u k q r says that at place k, which is q, the test answered r

-- none of them is found
abbrev pub NotFound : {A : Type 0} → Codec A → List ℕ → ℕ → (ℕ → ℕ → Bool → Type 0) → ℕ → ℕ → Type 0
NotFound C b e u n p = (i : ℕ) → i < n → u i (steps C b e i p) false

-- one is, and none before it
pub record Found {A : Type 0} (C : Codec A) (b : List ℕ) (e : ℕ) (u : ℕ → ℕ → Bool → Type 0) (n p : ℕ) : Type 0 where
  pub number : ℕ
  pub below : number < n
  pub yes : u number (steps C b e number p) true
  pub first : (i : ℕ) → i < number → u i (steps C b e i p) false

-- r tells which of the two
abbrev pub Searched : {A : Type 0} → Codec A → List ℕ → ℕ → (ℕ → ℕ → Bool → Type 0) → ℕ → ℕ → Bool → Type 0
Searched C b e u n p true = Found C b e u n p
Searched C b e u n p false = NotFound C b e u n p

-- and so does r that has the place behind them where none is found
abbrev pub SearchedTo : {A : Type 0} → Codec A → List ℕ → ℕ → (ℕ → ℕ → Bool → Type 0) → ℕ → ℕ → Option ℕ → Type 0
SearchedTo C b e u n p None = Found C b e u n p
SearchedTo C b e u n p (Some q) = (q ≡ steps C b e n p) × NotFound C b e u n p

-- tests that step: from p on, n of them tell a place each, the last of them q
unfoldable pub Passed : (ℕ → Option ℕ → Type 0) → ℕ → ℕ → ℕ → Type 0
Passed t zero p q = q ≡ p
Passed t (suc n) p q = (m : ℕ) × (Passed t n p m × t m (Some q))

-- fewer than n do, and then one finds something
pub record Stopped (t : ℕ → Option ℕ → Type 0) (n p : ℕ) : Type 0 where
  pub number : ℕ
  pub below : number < n
  pub place : ℕ
  pub passed : Passed t number p place
  pub found : t place None

abbrev pub Walked : (ℕ → Option ℕ → Type 0) → ℕ → ℕ → Option ℕ → Type 0
Walked t n p None = Stopped t n p
Walked t n p (Some q) = Passed t n p q
