-- Laws of the definitions of specs/Maps, and words that only proofs use.
use Prim.Native.Nat.{ℕ, zero, suc, ◌+◌, ◌-◌, ◌≤◌, ◌<◌}
use Rattle.std.specs.Prelude.{◌≡◌, List, ◌∷◌, Bool, ltb, None}
use Rattle.std.proofs.Math.Path.{refl, sym}
use Rattle.std.proofs.Common.{◌∙◌, lt-ltb, le-ltb}
use Rattle.std.proofs.Math.Bool.{true, false}
use native.Mathlib.Omega.{arith}
use Rattle.std.proofs.Math.Numerals.{sub-one}
use Rattle.codec.specs.Codec.{Got, got, bad, bind, pick, Codec, le_c, ◌⊗◌, when_c, list_c, items_read}
use Rattle.codec.proofs.Codec.{pick_same}
use Rattle.codec.specs.Skip.{skip, after, count_at, value_or, Is}
use Rattle.codec.proofs.Skip.{skip_past}
use Rattle.codec.proofs.Field.{is_pair, is_when}
use Rattle.codec.specs.Forms.{num_c, bytes_c}
use Rattle.codec.specs.Maps.{rises_from, num_map_c, rises_after, bytes_map_c}

-- ---- where a map with number keys ends: n entries are left, from the place at, and the next key is at least low
unfoldable pub risen : {E : Type 0} → Codec E → List ℕ → ℕ → ℕ → ℕ → ℕ → ℕ
risen E b e zero low at = at
risen E b e (suc n) low at = pick (ltb (count_at b at e) low) (e + 1) (risen E b e n (count_at b at e + 1) (skip (num_c ⊗ E) b at e))

module _ {E : Type 0} (C : Codec E) (b : List ℕ) (e : ℕ) where
  risen_end : (n low : ℕ) → risen C b e n low (e + 1) ≡ e + 1
  unfolding risen
  risen_end zero low = refl
  risen_end (suc n) low = go (ltb (count_at b (e + 1) e) low) (risen_end n (count_at b (e + 1) e + 1))
    where
      go : (t : Bool) → risen C b e n (count_at b (e + 1) e + 1) (e + 1) ≡ e + 1 → pick t (e + 1) (risen C b e n (count_at b (e + 1) e + 1) (skip (num_c ⊗ C) b (e + 1) e)) ≡ e + 1
      go true ih = refl
      go false ih = rw (skip_past (num_c ⊗ C) b e (e + 1) (omega arith)) ih

  key_is : (at p : ℕ) (x : ℕ × E) → (num_c ⊗ C).read b at e ≡ got x p → count_at b at e ≡ x.0
  unfolding count_at
  key_is at p x h =
      let s : skip (num_c ⊗ C) b at e ≡ p = (unfold skip in rw h) in
      let i : Is (num_c ⊗ C) b e at x = rw s h in
      rw (is_pair num_c C b e at x i).0

  items_risen : (n low at : ℕ) → after e (bind (items_read (num_c ⊗ C) n b at e) (λ xs m. pick (rises_from low xs) (got xs m) bad)) ≡ risen C b e n low at
  unfolding risen skip
  items_risen zero low at = refl
  items_risen (suc n) low at = first ((num_c ⊗ C).read b at e) refl (items_risen n)
    where
      Tested : ℕ → Got (List (ℕ × E)) → Got (List (ℕ × E))
      Tested l g = bind g (λ xs m. pick (rises_from l xs) (got xs m) bad)

      third : (x : ℕ × E) (xs : List (ℕ × E)) (m : ℕ) (t u : Bool) → after e (pick (pick t false u) (got (x ∷ xs) m) bad) ≡ pick t (e + 1) (after e (pick u (got xs m) bad))
      third x xs m true u = refl
      third x xs m false true = refl
      third x xs m false false = refl

      second : (x : ℕ × E) (g : Got (List (ℕ × E))) → after e (Tested low (bind g (λ xs m. got (x ∷ xs) m))) ≡ pick (ltb x.0 low) (e + 1) (after e (Tested (x.0 + 1) g))
      second x (got xs m) = third x xs m (ltb x.0 low) (rises_from (x.0 + 1) xs)
      second x bad = sym (pick_same (ltb x.0 low) (e + 1))

      first : (g : Got (ℕ × E)) → (num_c ⊗ C).read b at e ≡ g → ((low at : ℕ) → after e (Tested low (items_read (num_c ⊗ C) n b at e)) ≡ risen C b e n low at)
          → after e (Tested low (bind g (λ x p. bind (items_read (num_c ⊗ C) n b p e) (λ xs m. got (x ∷ xs) m)))) ≡ pick (ltb (count_at b at e) low) (e + 1) (risen C b e n (count_at b at e + 1) (after e g))
      first (got x p) q ih = second x (items_read (num_c ⊗ C) n b p e) ∙ rw (key_is at p x q, ih (x.0 + 1) p)
      first bad q ih = rw (risen_end n (count_at b at e + 1)) (sym (pick_same (ltb (count_at b at e) low) (e + 1)))

  pub skip_num_map : (at : ℕ) → skip (num_map_c C) b at e ≡ risen C b e (count_at b at e) 0 (skip (le_c 4) b at e)
  unfolding skip count_at num_map_c when_c list_c risen
  skip_num_map at = go ((le_c 4).read b at e)
    where
      go : (g : Got ℕ) → after e (bind (bind g (λ n p. items_read (num_c ⊗ C) n b p e)) (λ xs m. pick (rises_from 0 xs) (got xs m) bad)) ≡ risen C b e (value_or 0 g) 0 (after e g)
      go (got n p) = items_risen n 0 p
      go bad = refl

  -- ---- what a loop over the entries needs
  pub map_start : (at n p : ℕ) → n ≡ count_at b at e → p ≡ skip (le_c 4) b at e → skip (num_map_c C) b at e ≡ risen C b e n 0 p
  map_start at n p i j = skip_num_map at ∙ rw (← i, ← j)

  risen_next : (n low p : ℕ) → 0 < n → risen C b e n low p ≡ pick (ltb (count_at b p e) low) (e + 1) (risen C b e (n - 1) (count_at b p e + 1) (skip (num_c ⊗ C) b p e))
  unfolding risen
  risen_next zero low p h = absurd (omega arith)
  risen_next (suc n) low p h = rw sub-one

  pub map_again : (a n low p k q : ℕ) → a ≡ risen C b e n low p → 0 < n → k ≡ count_at b p e → low ≤ k → q ≡ skip (num_c ⊗ C) b p e → a ≡ risen C b e (n - 1) (k + 1) q
  map_again a n low p k q i h j l m = i ∙ risen_next n low p h ∙ rw (← j, ← m) (simp (le-ltb _ _ l))

  pub map_fallen : (a n low p k : ℕ) → a ≡ risen C b e n low p → 0 < n → k ≡ count_at b p e → k < low → e + 1 ≡ a
  map_fallen a n low p k i h j l = sym (i ∙ risen_next n low p h ∙ rw (← j) (simp (lt-ltb _ _ l)))

  pub map_broken : (a n low p : ℕ) → a ≡ risen C b e n low p → 0 < n → e < p → e + 1 ≡ a
  map_broken a n low p i h k = sym (i ∙ risen_next n low p h ∙ rw (skip_past (num_c ⊗ C) b e p k, risen_end (n - 1) (count_at b p e + 1)) (pick_same (ltb (count_at b p e) low) (e + 1)))

  pub map_done : (a n low p : ℕ) → a ≡ risen C b e n low p → n ≤ 0 → p ≡ a
  unfolding risen
  map_done a n low p i h = let z : n ≡ 0 = omega arith in sym (i ∙ rw z)

-- ---- the entries of a map that stands at a place
pub is_num_map : {E : Type 0} (C : Codec E) (b : List ℕ) (e at : ℕ) (v : List (ℕ × E)) → Is (num_map_c C) b e at v → Is (list_c (num_c ⊗ C)) b e at v × (rises_from 0 v ≡ true)
unfolding num_map_c
is_num_map C b e at v h = is_when (rises_from 0) (list_c (num_c ⊗ C)) b e at v h

pub is_bytes_map : {E : Type 0} (C : Codec E) (b : List ℕ) (e at : ℕ) (v : List (List ℕ × E)) → Is (bytes_map_c C) b e at v → Is (list_c (bytes_c ⊗ C)) b e at v × (rises_after None v ≡ true)
unfolding bytes_map_c
is_bytes_map C b e at v h = is_when (rises_after None) (list_c (bytes_c ⊗ C)) b e at v h
