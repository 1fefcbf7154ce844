-- Walks over lists, and tests joined: what every test of a job's parts is proved by.
use Prim.Native.Nat.{ℕ, suc, ◌+◌, ◌-◌, ◌≤◌, ◌<◌}
use mathlib.Core.Path.{◌≡◌, refl, sym, ◌∙◌}
use mathlib.Core.List.{List, [], ◌∷◌}
use mathlib.Core.Bool.{Bool, true, false}
use native.Mathlib.Omega.{arith}
use Rattle.std.specs.Prelude.{None, Some}
use lib.ListN.{length, get_or}
use lib.Dec.{ltb, eqb}
use borrow.Author.Tests.{eq-eqb, ne_eqb, lt-ltb, le-ltb}
use Rattle.codec.specs.Codec.{Codec, got, pick, le_c, list_c, le}
use Rattle.codec.specs.Forms.{opt_c, num_c, byte_c}
use Rattle.codec.specs.Skip.{skip, steps, count_at, tag_at, Is}
use Rattle.codec.proofs.Skip.{skip_le}
use Rattle.codec.proofs.Field.{ListIs, is_list, is_in, is_none, is_some, count_list, is_le}
use Rattle.codec.proofs.Ways.{tag_in, tag_case}
use Rattle.codec.specs.Limits.{any, any_of}
use Rattle.codec.proofs.Limits.{alone}
use Rattle.format.specs.Words.{if_some, present}
use Rattle.says.specs.Says.{Says, Rest}

-- ---- tests joined
pub both : (r x y s : Bool) (ts : List Bool) → r ≡ pick x true y → x ≡ s → y ≡ any ts → r ≡ any (s ∷ ts)
unfolding any
both r x y s ts h i j = h ∙ rw (i, j)

pub only : (x s : Bool) → x ≡ s → x ≡ any (s ∷ [])
unfolding any
only x s h = h ∙ alone s

-- ---- numbers and counts
pub number_is : (b : List ℕ) (e n p q v : ℕ) → n ≡ count_at b p e → p ≡ q → Is num_c b e q v → n ≡ v
unfolding count_at
number_is b e n p q v h i j = h ∙ rw (i, j)

pub more_than : {A : Type 0} (C : Codec A) (b : List ℕ) (e n p q : ℕ) (vs : List A) (k : ℕ) → n ≡ count_at b p e → p ≡ q → Is (list_c C) b e q vs → ltb k n ≡ ltb k (length vs)
more_than C b e n p q vs k h i j = let z : n ≡ length vs = h ∙ rw i (sym (count_list C b e q vs (is_list C b e q vs j))) in rw z

-- ---- options: t is the mark, p the place behind it
module _ {A : Type 0} (C : Codec A) (b : List ℕ) (e at t : ℕ) (f : A → Bool) where
  pub opt_there : (p : ℕ) (r : Bool) → t ≡ tag_at b at e → t ≡ 1 → p ≡ skip (le_c 1) b at e → Says C b e p f r → Says (opt_c C) b e at (if_some f) r
  unfolding if_some
  opt_there p r h i q s None k =
      let l : at < e = tag_case b at e 1 (sym h ∙ i) (omega arith) in
      absurd (omega (arith, is_none C b e at k, tag_in b at e l))
  opt_there p r h i q s (Some v) k =
      let l : at < e = tag_case b at e 1 (sym h ∙ i) (omega arith) in
      s v (rw (q, skip_le 1 b at e (omega arith)) (is_some C b e at v k).1)

  pub opt_none : t ≡ tag_at b at e → (t ≡ 1 → ⊥) → Says (opt_c C) b e at (if_some f) false
  unfolding if_some
  opt_none h i None k = refl
  opt_none h i (Some v) k =
      let m = is_some C b e at v k in
      let l : at + 1 ≤ e = is_in C b e (at + 1) v m.1 in
      absurd (i (h ∙ tag_in b at e (omega arith) ∙ m.0))

-- ---- a walk
module _ {A : Type 0} (C : Codec A) (b : List ℕ) (e : ℕ) where
  pub rest_start : (P : List A → Type 0) (at n p : ℕ) (vs : List A) → n ≡ count_at b at e → p ≡ skip (le_c 4) b at e → Is (list_c C) b e at vs → P vs → Rest C b e P n p
  rest_start P at n p vs h i j k =
      let l : ListIs C b e at vs = is_list C b e at vs j in
      let q : p ≡ at + 4 = i ∙ skip_le 4 b at e l.room in
      record { items = vs; count = count_list C b e at vs l ∙ sym h; item = rw q l.item; holds = k }

  -- the first of them, and what is left behind it
  split : (P Q : List A → Type 0) (G : Type 0) (n p q : ℕ) → Rest C b e P n p → 0 < n → q ≡ skip C b p e
      → ((x : A) (xs : List A) → Is C b e p x → P (x ∷ xs) → (Q xs → Rest C b e Q (n - 1) q) → G) → G
  unfolding steps
  split P Q G n p q r h i k = go r.items r.count r.item r.holds
    where
      go : (vs : List A) → length vs ≡ n → ((i : ℕ) (d : A) → i < length vs → Is C b e (steps C b e i p) (get_or vs i d)) → P vs → G
      go [] c f m = absurd (omega arith)
      go (x ∷ xs) c f m = k x xs (f 0 x (omega arith)) m (λ w. record { items = xs; count = omega arith; item = rw i (λ j d l. f (suc j) d (omega arith)); holds = w })

  pub rest_again : (P Q : List A → Type 0) (n p q : ℕ) → Rest C b e P n p → 0 < n → q ≡ skip C b p e → ((x : A) (xs : List A) → Is C b e p x → P (x ∷ xs) → Q xs) → Rest C b e Q (n - 1) q
  rest_again P Q n p q r h i k = split P Q _ n p q r h i (λ x xs l m w. w (k x xs l m))

  pub rest_found : (P : List A → Type 0) (G : Type 0) (n p : ℕ) → Rest C b e P n p → 0 < n → ((x : A) (xs : List A) → Is C b e p x → P (x ∷ xs) → G) → G
  rest_found P G n p r h k = split P P G n p _ r h refl (λ x xs l m w. k x xs l m)

  pub rest_done : (P : List A → Type 0) (n p : ℕ) → Rest C b e P n p → n ≤ 0 → P []
  rest_done P n p r h = go r.items r.count r.holds
    where
      go : (vs : List A) → length vs ≡ n → P vs → P []
      go [] c m = m
      go (x ∷ xs) c m = absurd (omega arith)

-- ---- some item passes the test
abbrev pub Some_of : {A : Type 0} → (A → Bool) → List A → List A → Type 0
Some_of f vs ws = any_of f vs ≡ any_of f ws

-- a walk that has met none yet
abbrev pub NoneYet : {A : Type 0} → Codec A → List ℕ → ℕ → ℕ → (A → Bool) → ℕ → ℕ → Type 0
NoneYet {A} C b e at f n p = (vs : List A) → Is (list_c C) b e at vs → Rest C b e (Some_of f vs) n p

module _ {A : Type 0} (C : Codec A) (b : List ℕ) (e at : ℕ) (f : A → Bool) where
  pub some_start : (n p : ℕ) → n ≡ count_at b at e → p ≡ skip (le_c 4) b at e → NoneYet C b e at f n p
  some_start n p h i vs j = rest_start C b e (Some_of f vs) at n p vs h i j refl

  pub some_again : (n p q : ℕ) (r : Bool) → NoneYet C b e at f n p → 0 < n → q ≡ skip C b p e → Says C b e p f r → r ≡ false → NoneYet C b e at f (n - 1) q
  unfolding any_of
  some_again n p q r d h i s k vs j = rest_again C b e (Some_of f vs) (Some_of f vs) n p q (d vs j) h i (λ x xs l m. m ∙ rw (← s x l, k))

  pub some_found : (n p : ℕ) (r : Bool) → NoneYet C b e at f n p → 0 < n → Says C b e p f r → r ≡ true → Says (list_c C) b e at (any_of f) true
  unfolding any_of
  some_found n p r d h s k vs j = rest_found C b e (Some_of f vs) _ n p (d vs j) h (λ x xs l m. sym (m ∙ rw (← s x l, k)))

  pub some_none : (n p : ℕ) → NoneYet C b e at f n p → n ≤ 0 → Says (list_c C) b e at (any_of f) false
  unfolding any_of
  some_none n p d h vs j = sym (rest_done C b e (Some_of f vs) n p (d vs j) h)

-- ---- a test of a field: p is its place
pub says_at : {A B : Type 0} (C : Codec A) (b : List ℕ) (e p q : ℕ) (f : A → B) (r : B) (v : A) → Says C b e p f r → Is C b e q v → p ≡ q → r ≡ f v
says_at C b e p q f r v s h i = s v (rw i h)

pub more_num : (b : List ℕ) (e n p q v k : ℕ) → n ≡ count_at b p e → p ≡ q → Is num_c b e q v → ltb k n ≡ ltb k v
more_num b e n p q v k h i j = let z : n ≡ v = number_is b e n p q v h i j in rw z

-- the answer was t
pub says_be : {A : Type 0} (C : Codec A) (b : List ℕ) (e p q : ℕ) (f : A → Bool) (r t : Bool) (v : A) → Says C b e p f r → r ≡ t → Is C b e q v → p ≡ q → f v ≡ t
says_be C b e p q f r t v s k h i = sym (says_at C b e p q f r v s h i) ∙ k

module _ {A : Type 0} (C : Codec A) (b : List ℕ) (e n p q : ℕ) (vs : List A) (k : ℕ) (h : n ≡ count_at b p e) (j : Is (list_c C) b e q vs) (i : p ≡ q) where
  pub long_is : k < n → ltb k (length vs) ≡ true
  long_is l = sym (more_than C b e n p q vs k h i j) ∙ lt-ltb k n l

  pub long_not : n ≤ k → ltb k (length vs) ≡ false
  long_not l = sym (more_than C b e n p q vs k h i j) ∙ le-ltb k n l

module _ (b : List ℕ) (e n p q v k : ℕ) (h : n ≡ count_at b p e) (j : Is num_c b e q v) (i : p ≡ q) where
  pub above_is : k < n → ltb k v ≡ true
  above_is l = sym (more_num b e n p q v k h i j) ∙ lt-ltb k n l

  pub above_not : n ≤ k → ltb k v ≡ false
  above_not l = sym (more_num b e n p q v k h i j) ∙ le-ltb k n l

-- ---- a test of a section
pub section_says : {A B : Type 0} (C : Codec A) (b : List ℕ) (at e at' e' : ℕ) (f : A → B) (r : B) (v : A) → Says C b e at f r → at ≡ at' → e ≡ e' → C.read b at' e' ≡ got v e' → r ≡ f v
unfolding skip
section_says C b at e at' e' f r v s i j h = s v (rw (i, j, h))

pub says_as : {A B : Type 0} (C : Codec A) (b : List ℕ) (e at : ℕ) (f g : A → B) (r : B) → Says C b e at f r → ((v : A) → f v ≡ g v) → Says C b e at g r
says_as C b e at f g r s h v i = s v i ∙ h v

-- ---- counts and marks
pub count_length : {A : Type 0} (C : Codec A) (b : List ℕ) (e at n : ℕ) (vs : List A) → n ≡ count_at b at e → Is (list_c C) b e at vs → n ≡ length vs
count_length C b e at n vs h i = h ∙ sym (count_list C b e at vs (is_list C b e at vs i))

pub present_says : {A : Type 0} (C : Codec A) (b : List ℕ) (e at t : ℕ) → t ≡ tag_at b at e → Says (opt_c C) b e at present (eqb t 1)
unfolding present
present_says C b e at t h None k = go (eqb t 1) refl
  where
    go : (u : Bool) → eqb t 1 ≡ u → u ≡ false
    go u q = sym q ∙ ne_eqb t 1 (λ i. let l : at < e = tag_case b at e 1 (sym h ∙ i) (omega arith) in omega (arith, is_none C b e at k, tag_in b at e l))
present_says C b e at t h (Some v) k =
    let m = is_some C b e at v k in
    let l : at + 1 ≤ e = is_in C b e (at + 1) v m.1 in
    eq-eqb t 1 (h ∙ tag_in b at e (omega arith) ∙ m.0)

-- the same where the mark was asked for
pub present_by : {A : Type 0} (C : Codec A) (b : List ℕ) (e at : ℕ) (u : Bool) → (u ≡ true → 1 ≡ tag_at b at e) → (u ≡ false → tag_at b at e ≡ 1 → ⊥) → Says (opt_c C) b e at present u
present_by C b e at u f g v i = go u f g ∙ present_says C b e at (tag_at b at e) refl v i
  where
    go : (t : Bool) → (t ≡ true → 1 ≡ tag_at b at e) → (t ≡ false → tag_at b at e ≡ 1 → ⊥) → t ≡ eqb (tag_at b at e) 1
    go true f g = sym (eq-eqb _ _ (sym (f refl)))
    go false f g = sym (ne_eqb _ _ (g refl))

-- ---- bytes
pub byte_is : (b : List ℕ) (e n p q v : ℕ) → n ≡ get_or b p 0 → p ≡ q → Is byte_c b e q v → n ≡ v
unfolding le
byte_is b e n p q v h i j =
    let l = is_le 1 b e q v j in
    h ∙ rw i (omega (arith, l.1))

pub byte_says : {B : Type 0} (b : List ℕ) (e at n : ℕ) (f : ℕ → B) (r : B) → n ≡ get_or b at 0 → r ≡ f n → Says byte_c b e at f r
byte_says b e at n f r h i v j = let z : n ≡ v = byte_is b e n at at v h refl j in i ∙ rw z
