-- Laws of the definitions of specs/Strings, and words that only proofs use.
use Prim.Native.Nat.{ℕ, zero, suc, ◌+◌, ◌-◌, ◌*◌, ◌≤◌, ◌<◌}
use Rattle.std.specs.Prelude.{◌≡◌, List, [], ◌∷◌, Bool, length, get_or, ltb, eqb, Option}
use Rattle.std.proofs.Math.Path.{refl, sym}
use Rattle.std.proofs.Common.{◌∙◌, add-zero, lt-ltb, le-ltb, eq-eqb, ne_eqb}
use Rattle.std.specs.Prelude.{Some, None}
use Rattle.std.proofs.Math.Bool.{true, false}
use native.Mathlib.Omega.{arith}
use Rattle.std.proofs.Math.Numerals.{sub-one}
use Rattle.codec.specs.Codec.{Got, got, bad, bind, pick, Codec, le, le_c, ◌⊗◌, when_c, list_c, items_read}
use Rattle.codec.proofs.Codec.{pick_same}
use Rattle.codec.specs.Skip.{skip, after, count_at, value_or, Is}
use Rattle.codec.proofs.Skip.{skip_past}
use Rattle.codec.proofs.Field.{is_pair, is_list, le_item}
use Rattle.codec.specs.Forms.{byte_c, bytes_c}
use Rattle.codec.specs.Maps.{before, above, rises_after, bytes_map_c}
use Rattle.codec.specs.Strings.{less_from, less_at, ok_at}

-- ---- a law for each way of the loop

module _ (b : List ℕ) (n m p q : ℕ) where
  pub less_ends : (a : Bool) → a ≡ less_from b n m p q → m ≤ 0 → false ≡ a
  unfolding less_from
  less_ends a i h = let z : m ≡ 0 = omega arith in sym (i ∙ rw z (go n))
    where
      go : (n : ℕ) → less_from b n 0 p q ≡ false
      go zero = refl
      go (suc n) = refl

  pub less_short : (a : Bool) → a ≡ less_from b n m p q → n ≤ 0 → 0 < m → true ≡ a
  unfolding less_from
  less_short a i h k = let z : n ≡ 0 = omega arith in sym (i ∙ rw z (go m k))
    where
      go : (m : ℕ) → 0 < m → less_from b 0 m p q ≡ true
      go zero k = absurd (omega arith)
      go (suc m) k = refl

  less_next : 0 < n → 0 < m → less_from b n m p q ≡ pick (ltb (get_or b p 0) (get_or b q 0)) true (pick (eqb (get_or b p 0) (get_or b q 0)) (less_from b (n - 1) (m - 1) (p + 1) (q + 1)) false)
  unfolding less_from
  less_next h k = go n m h k
    where
      go : (n m : ℕ) → 0 < n → 0 < m → less_from b n m p q ≡ pick (ltb (get_or b p 0) (get_or b q 0)) true (pick (eqb (get_or b p 0) (get_or b q 0)) (less_from b (n - 1) (m - 1) (p + 1) (q + 1)) false)
      go zero m h k = absurd (omega arith)
      go (suc n) zero h k = absurd (omega arith)
      go (suc n) (suc m) h k = simp sub-one

  module _ (a : Bool) (x y : ℕ) (i : a ≡ less_from b n m p q) (h : 0 < n) (k : 0 < m) (f : x ≡ get_or b p 0) (g : y ≡ get_or b q 0) where
    pub less_yes : x < y → true ≡ a
    less_yes l = sym (i ∙ less_next h k ∙ rw (← f, ← g) (simp (lt-ltb _ _ l)))

    pub less_no : y ≤ x → (x ≡ y → ⊥) → false ≡ a
    less_no l o = sym (i ∙ less_next h k ∙ rw (← f, ← g) (simp (le-ltb _ _ l, ne_eqb _ _ o)))

    pub less_more : y ≤ x → x ≡ y → a ≡ less_from b (n - 1) (m - 1) (p + 1) (q + 1)
    less_more l o = i ∙ less_next h k ∙ rw (← f, ← g) (simp (le-ltb _ _ l, eq-eqb _ _ o))

-- ---- and what it says of the byte strings
strings_less : (b : List ℕ) (xs ys : List ℕ) (p q : ℕ) → ((i : ℕ) → i < length xs → get_or xs i 0 ≡ get_or b (p + i) 0) → ((i : ℕ) → i < length ys → get_or ys i 0 ≡ get_or b (q + i) 0) → less_from b (length xs) (length ys) p q ≡ before xs ys
unfolding less_from
strings_less b [] [] p q f g = refl
strings_less b [] (y ∷ ys) p q f g = refl
strings_less b (x ∷ xs) [] p q f g = refl
strings_less b (x ∷ xs) (y ∷ ys) p q f g =
    let x₀ : get_or b p 0 ≡ x = sym (f 0 (omega arith) ∙ rw add-zero) in
    let y₀ : get_or b q 0 ≡ y = sym (g 0 (omega arith) ∙ rw add-zero) in
    rw (x₀, y₀, strings_less b xs ys (p + 1) (q + 1) (λ i h. f (suc i) (omega arith) ∙ near p i) (λ i h. g (suc i) (omega arith) ∙ near q i))
  where
    near : (p i : ℕ) → get_or b (p + suc i) 0 ≡ get_or b (p + 1 + i) 0
    near p i = let e : p + suc i ≡ p + 1 + i = omega arith in rw e

bytes_are : (b : List ℕ) (e p : ℕ) (xs : List ℕ) → Is bytes_c b e p xs → (i : ℕ) → i < length xs → get_or xs i 0 ≡ get_or b (p + 4 + i) 0
unfolding le
bytes_are b e p xs h i q = let m : p + 4 + 1 * i ≡ p + 4 + i = omega arith in rw m at (le_item 1 b e p xs i h q) ∙ omega arith

pub less_is : (b : List ℕ) (e p q : ℕ) (xs ys : List ℕ) → Is bytes_c b e p xs → Is bytes_c b e q ys → less_at b p q ≡ before xs ys
unfolding less_at
less_is b e p q xs ys h k =
    rw (← (is_list byte_c b e p xs h).counted, ← (is_list byte_c b e q ys k).counted) (strings_less b xs ys (p + 4) (q + 4) (bytes_are b e p xs h) (bytes_are b e q ys k))

-- ---- the walk: last is the place of the key before, if there is one

pub ok_first : (b : List ℕ) (at : ℕ) → ok_at b None at ≡ true
unfolding ok_at
ok_first b at = refl

pub ok_later : (b : List ℕ) (q at : ℕ) → ok_at b (Some q) at ≡ less_at b q at
unfolding ok_at
ok_later b q at = refl

unfoldable pub sorted : {E : Type 0} → Codec E → List ℕ → ℕ → ℕ → Option ℕ → ℕ → ℕ
sorted E b e zero last at = at
sorted E b e (suc n) last at = pick (ok_at b last at) (sorted E b e n (Some at) (skip (bytes_c ⊗ E) b at e)) (e + 1)

module _ {E : Type 0} (C : Codec E) (b : List ℕ) (e : ℕ) where
  Prior : Option (List ℕ) → Option ℕ → Type 0
  Prior None last = last ≡ None
  Prior (Some j) last = (q : ℕ) × (last ≡ Some q) × Is bytes_c b e q j

  ok_is : (s : Option (List ℕ)) (last : Option ℕ) (at : ℕ) (k : List ℕ) → Prior s last → Is bytes_c b e at k → ok_at b last at ≡ above s k
  unfolding Prior ok_at
  ok_is None last at k h i = rw h
  ok_is (Some j) last at k h i = rw h.1 (less_is b e h.0 at j k h.2 i)

  sorted_end : (n : ℕ) (last : Option ℕ) → sorted C b e n last (e + 1) ≡ e + 1
  unfolding sorted
  sorted_end zero last = refl
  sorted_end (suc n) last = go (ok_at b last (e + 1)) (sorted_end n (Some (e + 1)))
    where
      go : (t : Bool) → sorted C b e n (Some (e + 1)) (e + 1) ≡ e + 1 → pick t (sorted C b e n (Some (e + 1)) (skip (bytes_c ⊗ C) b (e + 1) e)) (e + 1) ≡ e + 1
      go true ih = rw (skip_past (bytes_c ⊗ C) b e (e + 1) (omega arith)) ih
      go false ih = refl

  entry_key : (at p : ℕ) (x : List ℕ × E) → (bytes_c ⊗ C).read b at e ≡ got x p → Is bytes_c b e at x.0
  entry_key at p x h =
      let s : skip (bytes_c ⊗ C) b at e ≡ p = (unfold skip in rw h) in
      let i : Is (bytes_c ⊗ C) b e at x = rw s h in
      (is_pair bytes_c C b e at x i).0

  items_sorted : (n : ℕ) (s : Option (List ℕ)) (last : Option ℕ) (at : ℕ) → Prior s last → after e (bind (items_read (bytes_c ⊗ C) n b at e) (λ xs m. pick (rises_after s xs) (got xs m) bad)) ≡ sorted C b e n last at
  unfolding sorted skip Prior
  items_sorted zero s last at h = refl
  items_sorted (suc n) s last at h = first ((bytes_c ⊗ C).read b at e) refl (λ j. items_sorted n (Some j) (Some at))
    where
      Tested : Option (List ℕ) → Got (List (List ℕ × E)) → Got (List (List ℕ × E))
      Tested l g = bind g (λ xs m. pick (rises_after l xs) (got xs m) bad)

      third : (x : List ℕ × E) (xs : List (List ℕ × E)) (m : ℕ) (t u : Bool) → after e (pick (pick t u false) (got (x ∷ xs) m) bad) ≡ pick t (after e (pick u (got xs m) bad)) (e + 1)
      third x xs m true true = refl
      third x xs m true false = refl
      third x xs m false u = refl

      second : (x : List ℕ × E) (g : Got (List (List ℕ × E))) → after e (Tested s (bind g (λ xs m. got (x ∷ xs) m))) ≡ pick (above s x.0) (after e (Tested (Some x.0) g)) (e + 1)
      second x (got xs m) = third x xs m (above s x.0) (rises_after (Some x.0) xs)
      second x bad = sym (pick_same (above s x.0) (e + 1))

      first : (g : Got (List ℕ × E)) → (bytes_c ⊗ C).read b at e ≡ g
          → ((j : List ℕ) (p : ℕ) → (q : ℕ) × (◌≡◌ {A = Option ℕ} (Some at) (Some q)) × Is bytes_c b e q j → after e (Tested (Some j) (items_read (bytes_c ⊗ C) n b p e)) ≡ sorted C b e n (Some at) p)
          → after e (Tested s (bind g (λ x p. bind (items_read (bytes_c ⊗ C) n b p e) (λ xs m. got (x ∷ xs) m)))) ≡ pick (ok_at b last at) (sorted C b e n (Some at) (after e g)) (e + 1)
      first (got x p) q ih =
          let k : Is bytes_c b e at x.0 = entry_key at p x q in
          second x (items_read (bytes_c ⊗ C) n b p e) ∙ rw (ok_is s last at x.0 h k, ih x.0 p (at, refl, k))
      first bad q ih = rw (sorted_end n (Some at)) (sym (pick_same (ok_at b last at) (e + 1)))

  pub skip_bytes_map : (at : ℕ) → skip (bytes_map_c C) b at e ≡ sorted C b e (count_at b at e) None (skip (le_c 4) b at e)
  unfolding skip count_at bytes_map_c when_c list_c sorted Prior
  skip_bytes_map at = go ((le_c 4).read b at e)
    where
      go : (g : Got ℕ) → after e (bind (bind g (λ n p. items_read (bytes_c ⊗ C) n b p e)) (λ xs m. pick (rises_after None xs) (got xs m) bad)) ≡ sorted C b e (value_or 0 g) None (after e g)
      go (got n p) = items_sorted n None None p refl
      go bad = refl

  -- ---- what a loop over the entries needs
  pub sorted_start : (at n p : ℕ) → n ≡ count_at b at e → p ≡ skip (le_c 4) b at e → skip (bytes_map_c C) b at e ≡ sorted C b e n None p
  sorted_start at n p i j = skip_bytes_map at ∙ rw (← i, ← j)

  sorted_next : (n : ℕ) (last : Option ℕ) (p : ℕ) → 0 < n → sorted C b e n last p ≡ pick (ok_at b last p) (sorted C b e (n - 1) (Some p) (skip (bytes_c ⊗ C) b p e)) (e + 1)
  unfolding sorted
  sorted_next zero last p h = absurd (omega arith)
  sorted_next (suc n) last p h = rw sub-one

  pub sorted_again : (a n : ℕ) (last : Option ℕ) (p q : ℕ) → a ≡ sorted C b e n last p → 0 < n → ok_at b last p ≡ true → q ≡ skip (bytes_c ⊗ C) b p e → a ≡ sorted C b e (n - 1) (Some p) q
  sorted_again a n last p q i h k m = i ∙ sorted_next n last p h ∙ rw (k, ← m)

  pub sorted_fallen : (a n : ℕ) (last : Option ℕ) (p : ℕ) → a ≡ sorted C b e n last p → 0 < n → ok_at b last p ≡ false → e + 1 ≡ a
  sorted_fallen a n last p i h k = sym (i ∙ sorted_next n last p h ∙ rw k)

  pub sorted_broken : (a n : ℕ) (last : Option ℕ) (p : ℕ) → a ≡ sorted C b e n last p → 0 < n → e < p → e + 1 ≡ a
  sorted_broken a n last p i h k = sym (i ∙ sorted_next n last p h ∙ rw (skip_past (bytes_c ⊗ C) b e p k, sorted_end (n - 1) (Some p)) (pick_same (ok_at b last p) (e + 1)))

  pub sorted_done : (a n : ℕ) (last : Option ℕ) (p : ℕ) → a ≡ sorted C b e n last p → n ≤ 0 → p ≡ a
  unfolding sorted
  sorted_done a n last p i h = let z : n ≡ 0 = omega arith in sym (i ∙ rw z)
