-- Tests that also step: walks that go through a job once are proved by these.
use Prim.Native.Nat.{ℕ, ◌-◌, ◌≤◌, ◌<◌}
use mathlib.Core.Path.{◌≡◌, refl, ◌∙◌}
use mathlib.Core.List.{List, [], ◌∷◌}
use mathlib.Core.Bool.{Bool, true, false}
use native.Mathlib.Omega.{arith}
use Rattle.codec.specs.Codec.{Codec, Got, got, bad, bind, pick, le_c, list_c, when_c, ◌⊗◌}
use Rattle.codec.specs.Forms.{num_c, bytes_c}
use Rattle.codec.specs.Skip.{after, skip, steps, count_at, Is}
use Rattle.codec.proofs.Skip.{list_start, list_again, list_done}
use Rattle.codec.specs.Maps.{num_map_c, bytes_map_c, rises_from, rises_after}
use Rattle.codec.specs.Limits.{any, any_of}
use Rattle.std.specs.Prelude.{Option, Some, None, is_some, not}
use Rattle.std.proofs.Common.{subst}
use Rattle.std.proofs.lemmas.Option.{same_Some}
use Rattle.says.specs.Says.{Says, Clears, Rest}
use Rattle.says.proofs.Walk.{Some_of, rest_start, rest_again, rest_found, rest_done}

-- what stands where a section begins
pub section_is : {A : Type 0} (C : Codec A) (b : List ℕ) (at e at' e' : ℕ) (v : A) → at ≡ at' → e ≡ e' → C.read b at' e' ≡ got v e' → Is C b e at v
unfolding skip
section_is C b at e at' e' v i j h = rw (i, j, h)

-- ---- what a test that steps tells
module _ {A : Type 0} (C : Codec A) (b : List ℕ) (e p : ℕ) (f : A → Bool) (v : A) (i : Is C b e p v) where
  pub clear_not : (q : ℕ) → Clears C b e p f (Some q) → (f v ≡ false) × (q ≡ skip C b p e)
  clear_not q s = go (f v) refl (s v i)
    where
      go : (t : Bool) → f v ≡ t → ◌≡◌ {A = Option ℕ} (Some q) (pick t None (Some (skip C b p e))) → (t ≡ false) × (q ≡ skip C b p e)
      go true j k = absurd (let z : ◌≡◌ {A = ℕ} 0 1 = cc in omega arith)
      go false j k = (refl, same_Some _ _ k)

  pub clear_found : Clears C b e p f None → f v ≡ true
  clear_found s = go (f v) refl (s v i)
    where
      go : (t : Bool) → f v ≡ t → ◌≡◌ {A = Option ℕ} None (pick t None (Some (skip C b p e))) → t ≡ true
      go true j k = refl
      go false j k = absurd (let z : ◌≡◌ {A = ℕ} 0 1 = cc in omega arith)

-- a test, and the place behind what it was asked of
pub clear_by : {A : Type 0} (C : Codec A) (b : List ℕ) (e p q : ℕ) (f : A → Bool) → Says C b e p f false → q ≡ skip C b p e → Clears C b e p f (Some q)
clear_by C b e p q f s h v i = rw (← s v i, h)

pub none_by : {A : Type 0} (C : Codec A) (b : List ℕ) (e p : ℕ) (f : A → Bool) → Says C b e p f true → Clears C b e p f None
none_by C b e p f s v i = rw (← s v i)

-- tests joined, one after the other
pub any_here : (t : Bool) (ts : List Bool) → t ≡ true → any (t ∷ ts) ≡ true
unfolding any
any_here t ts h = rw h

pub any_later : (t : Bool) (ts : List Bool) → any ts ≡ true → any (t ∷ ts) ≡ true
unfolding any
any_later true ts h = refl
any_later false ts h = h

pub any_not : (t : Bool) (ts : List Bool) → t ≡ false → any ts ≡ false → any (t ∷ ts) ≡ false
unfolding any
any_not t ts h i = rw (h, i)

-- what is found is found, and what isn't ends where it does
pub is_found : (t : Bool) (n : ℕ) → t ≡ true → ◌≡◌ {A = Option ℕ} None (pick t None (Some n))
is_found t n h = rw h

pub is_clear : (t : Bool) (q n : ℕ) → t ≡ false → q ≡ n → ◌≡◌ {A = Option ℕ} (Some q) (pick t None (Some n))
is_clear t q n h i = rw (h, i)

module _ {A : Type 0} (C : Codec A) (b : List ℕ) (e p q : ℕ) (f : A → Bool) (r : Option ℕ) (v : A) (s : Clears C b e p f r) (i : Is C b e q v) (k : p ≡ q) where
  pub told_none : r ≡ None → f v ≡ true
  told_none h = clear_found C b e q f v i (subst (λ x. Clears C b e q f x) h (subst (λ x. Clears C b e x f r) k s))

  pub told_some : (n : ℕ) → r ≡ Some n → (f v ≡ false) × (n ≡ skip C b q e)
  told_some n h = clear_not C b e q f v i n (subst (λ x. Clears C b e q f x) h (subst (λ x. Clears C b e x f r) k s))

-- the place behind, told otherwise
pub clears_as : (t : Bool) (r : Option ℕ) (n m : ℕ) → r ≡ pick t None (Some n) → n ≡ m → r ≡ pick t None (Some m)
clears_as t r n m h i = h ∙ rw i

-- a test that steps, behind one that found nothing
pub clears_after : (t w : Bool) (r : Option ℕ) (n m : ℕ) → t ≡ false → r ≡ pick w None (Some n) → n ≡ m → r ≡ pick (any (t ∷ w ∷ [])) None (Some m)
unfolding any
clears_after t true r n m h i j = rw h i
clears_after t false r n m h i j = rw (h, ← j) i

-- the same behind several: u is what they and it are together
pub clears_among : (w u : Bool) (r : Option ℕ) (n m : ℕ) → r ≡ pick w None (Some n) → u ≡ w → n ≡ m → r ≡ pick u None (Some m)
clears_among w u r n m h i j = rw (i, ← j) h

pub any_past : (t : Bool) (ts : List Bool) → t ≡ false → any (t ∷ ts) ≡ any ts
unfolding any
any_past t ts h = rw h

pub any_one : (t : Bool) → any (t ∷ []) ≡ t
unfolding any
any_one true = refl
any_one false = refl

-- whether it found something
pub told_is : (t x : Bool) (r : Option ℕ) (n : ℕ) → r ≡ pick t None (Some n) → is_some r ≡ not x → x ≡ t
told_is true true r n h i = refl
told_is true false r n h i = absurd (let z : ◌≡◌ {A = ℕ} 0 1 = cc in omega arith)
told_is false true r n h i = absurd (let z : ◌≡◌ {A = ℕ} 0 1 = cc in omega arith)
told_is false false r n h i = refl

-- it found something where it tells no place
pub clears_found : {A : Type 0} (C : Codec A) (b : List ℕ) (e p : ℕ) (f : A → Bool) (r : Option ℕ) (x : Bool) → Clears C b e p f r → is_some r ≡ not x → Says C b e p f x
clears_found C b e p f r x s h v i = told_is _ _ _ _ (s v i) h

-- ---- a test of a field, with the place behind it
pub clears_at : {A : Type 0} (C : Codec A) (b : List ℕ) (e p q : ℕ) (f : A → Bool) (r : Option ℕ) (v : A) → Clears C b e p f r → Is C b e q v → p ≡ q → r ≡ pick (f v) None (Some (skip C b q e))
clears_at C b e p q f r v s h i = rw i at (s v (rw i h))

-- ---- a map ends where its list of entries does
skip_when : {A : Type 0} (P : A → Bool) (C : Codec A) (b : List ℕ) (e at : ℕ) (v : A) → Is (when_c P C) b e at v → skip C b at e ≡ skip (when_c P C) b at e
unfolding when_c skip
skip_when {A} P C b e at v h = go (C.read b at e) h
  where
    tested : (x : A) (n : ℕ) (t : Bool) → pick t (got x n) bad ≡ got v (after e (pick t (got x n) bad)) → n ≡ after e (pick t (got x n) bad)
    tested x n true k = refl
    tested x n false k = absurd (let z : ◌≡◌ {A = ℕ} 0 1 = cc in omega arith)

    go : (r : Got A) → bind r (λ x n. pick (P x) (got x n) bad) ≡ got v (after e (bind r (λ x n. pick (P x) (got x n) bad))) → after e r ≡ after e (bind r (λ x n. pick (P x) (got x n) bad))
    go (got x n) k = tested x n (P x) k
    go bad k = refl

pub skip_num_map_list : {E : Type 0} (C : Codec E) (b : List ℕ) (e at : ℕ) (v : List (ℕ × E)) → Is (num_map_c C) b e at v → skip (list_c (num_c ⊗ C)) b at e ≡ skip (num_map_c C) b at e
unfolding num_map_c
skip_num_map_list C b e at v h = skip_when (rises_from 0) (list_c (num_c ⊗ C)) b e at v h

pub skip_bytes_map_list : {E : Type 0} (C : Codec E) (b : List ℕ) (e at : ℕ) (v : List (List ℕ × E)) → Is (bytes_map_c C) b e at v → skip (list_c (bytes_c ⊗ C)) b at e ≡ skip (bytes_map_c C) b at e
unfolding bytes_map_c
skip_bytes_map_list C b e at v h = skip_when (rises_after None) (list_c (bytes_c ⊗ C)) b e at v h

-- ---- a walk that has met none yet, and how far it has come
abbrev pub Going : {A : Type 0} → Codec A → List ℕ → ℕ → ℕ → (A → Bool) → ℕ → ℕ → Type 0
Going {A} C b e at f n p = (vs : List A) → Is (list_c C) b e at vs → Rest C b e (Some_of f vs) n p × (skip (list_c C) b at e ≡ steps C b e n p)

module _ {A : Type 0} (C : Codec A) (b : List ℕ) (e at : ℕ) (f : A → Bool) where
  pub pass_start : (n p : ℕ) → n ≡ count_at b at e → p ≡ skip (le_c 4) b at e → Going C b e at f n p
  pass_start n p h i vs j = (rest_start C b e (Some_of f vs) at n p vs h i j refl, list_start C b e at n p h i)

  pub pass_again : (n p q : ℕ) → Going C b e at f n p → 0 < n → Clears C b e p f (Some q) → Going C b e at f (n - 1) q
  unfolding any_of
  pass_again n p q d h s vs j =
      let g = d vs j in
      rest_found C b e (Some_of f vs) _ n p g.0 h
      (λ x xs l m. let i : q ≡ skip C b p e = (clear_not C b e p f x l q s).1 in
      (rest_again C b e (Some_of f vs) (Some_of f vs) n p q g.0 h i (λ y ys o w. w ∙ rw (clear_not C b e p f y o q s).0), list_again C b e _ n p q g.1 h i))

  pub pass_found : (n p : ℕ) → Going C b e at f n p → 0 < n → Clears C b e p f None → Clears (list_c C) b e at (any_of f) None
  unfolding any_of
  pass_found n p d h s vs j =
      let z : any_of f vs ≡ true = rest_found C b e (Some_of f vs) _ n p (d vs j).0 h (λ x xs l w. w ∙ rw (clear_found C b e p f x l s)) in
      rw z

  pub pass_none : (n p : ℕ) → Going C b e at f n p → n ≤ 0 → Clears (list_c C) b e at (any_of f) (Some p)
  unfolding any_of
  pass_none n p d h vs j =
      let g = d vs j in
      let z : any_of f vs ≡ false = rest_done C b e (Some_of f vs) n p g.0 h in
      let w : p ≡ skip (list_c C) b at e = list_done C b e _ n p g.1 h in
      rw (z, w)
