-- Laws of the definitions of specs/Skip, and words that only proofs use.
use Prim.Native.Nat.{ℕ, zero, suc, ◌+◌, ◌-◌, ◌≤◌, ◌<◌}
use Rattle.std.specs.Prelude.{◌≡◌, List, ◌∷◌, ◌⊎◌, get_or}
use Rattle.std.proofs.Math.Path.{refl, sym}
use Rattle.std.proofs.Common.{◌∙◌, inl, inr, le-leb}
use native.Mathlib.Omega.{arith}
use Rattle.std.proofs.Math.Numerals.{sub-one}
use Rattle.std.proofs.lemmas.Bool.{lt-leb}
use Rattle.codec.specs.Codec.{Got, got, bad, bind, Codec, Cases, le, le_c, unit_c, dep_c, ◌⊗◌, map_c, enum_c, ◌⊕◌, end_c, list_c, items_read}
use Rattle.codec.specs.Skip.{after, skip, value_or, steps, count_at, Is}

module _ {A : Type 0} (C : Codec A) (b : List ℕ) (e : ℕ) where
  pub skip_past : (at : ℕ) → e < at → skip C b at e ≡ e + 1
  unfolding skip
  skip_past at h = rw (C.past b at e h)

  pub steps_past : (n at : ℕ) → 0 < n → e < at → steps C b e n at ≡ e + 1
  unfolding steps
  steps_past zero at q h = absurd (omega arith)
  steps_past (suc zero) at q h = skip_past at h
  steps_past (suc (suc n)) at q h = rw (skip_past at h) (steps_past (suc n) (e + 1) (omega arith) (omega arith))

  pub steps_end : (n : ℕ) → steps C b e n (e + 1) ≡ e + 1
  unfolding steps
  steps_end zero = refl
  steps_end (suc n) = rw (skip_past (e + 1) (omega arith)) (steps_end n)

  -- the last step
  pub steps_last : (n at : ℕ) → steps C b e (n + 1) at ≡ skip C b (steps C b e n at) e
  unfolding steps
  steps_last zero at = refl
  steps_last (suc n) at = let q : suc n + 1 ≡ suc (n + 1) = omega arith in rw q (steps_last n (skip C b at e))

  pub steps_next : (n at : ℕ) → 0 < n → steps C b e n at ≡ steps C b e (n - 1) (skip C b at e)
  unfolding steps
  steps_next zero at h = absurd (omega arith)
  steps_next (suc n) at h = rw sub-one

  pub items_skip : (n at : ℕ) → after e (items_read C n b at e) ≡ steps C b e n at
  unfolding skip steps
  items_skip zero at = refl
  items_skip (suc n) at = go (C.read b at e) (items_skip n)
    where
      more : (x : A) (g : Got (List A)) → after e (bind g (λ xs m. got (x ∷ xs) m)) ≡ after e g
      more x (got xs m) = refl
      more x bad = refl

      go : (g : Got A) → ((p : ℕ) → after e (items_read C n b p e) ≡ steps C b e n p) → after e (bind g (λ x p. bind (items_read C n b p e) (λ xs m. got (x ∷ xs) m))) ≡ steps C b e n (after e g)
      go (got x p) ih = more x (items_read C n b p e) ∙ ih p
      go bad ih = sym (steps_end n)

  -- a list ends where its items do
  pub skip_list : (at : ℕ) → skip (list_c C) b at e ≡ steps C b e (count_at b at e) (skip (le_c 4) b at e)
  unfolding skip count_at list_c steps
  skip_list at = go ((le_c 4).read b at e)
    where
      go : (g : Got ℕ) → after e (bind g (λ n p. items_read C n b p e)) ≡ steps C b e (value_or 0 g) (after e g)
      go (got n p) = items_skip n p
      go bad = refl

  -- what a loop over the items needs: a is the whole, of which n items are left, from the place p
  pub list_start : (at n p : ℕ) → n ≡ count_at b at e → p ≡ skip (le_c 4) b at e → skip (list_c C) b at e ≡ steps C b e n p
  list_start at n p i j = skip_list at ∙ rw (← i, ← j)

  pub list_again : (a n p q : ℕ) → a ≡ steps C b e n p → 0 < n → q ≡ skip C b p e → a ≡ steps C b e (n - 1) q
  list_again a n p q i h j = i ∙ steps_next n p h ∙ rw (← j)

  pub list_broken : (a n p : ℕ) → a ≡ steps C b e n p → 0 < n → e < p → e + 1 ≡ a
  list_broken a n p i h k = sym (i ∙ steps_past n p h k)

  pub list_done : (a n p : ℕ) → a ≡ steps C b e n p → n ≤ 0 → p ≡ a
  unfolding steps
  list_done a n p i h = let z : n ≡ 0 = omega arith in sym (i ∙ rw z)

pub skip_pair : {A B : Type 0} (C : Codec A) (D : Codec B) (b : List ℕ) (at e : ℕ) → skip (C ⊗ D) b at e ≡ skip D b (skip C b at e) e
unfolding skip dep_c
skip_pair {A} {B} C D b at e = go (C.read b at e)
  where
    more : (x : A) (g : Got B) → after {A = A × B} e (bind g (λ y m. got (x, y) m)) ≡ after e g
    more x (got y m) = refl
    more x bad = refl

    go : (g : Got A) → after {A = A × B} e (bind g (λ x n. bind (D.read b n e) (λ y m. got (x, y) m))) ≡ after e (D.read b (after e g) e)
    go (got x n) = more x (D.read b n e)
    go bad = rw (D.past b (e + 1) e (omega arith))

pub skip_map : {A B : Type 0} (f : A → B) (g : B → A) (fg : (y : B) → f (g y) ≡ y) (gf : (x : A) → g (f x) ≡ x) (C : Codec A) (b : List ℕ) (at e : ℕ) → skip (map_c f g fg gf C) b at e ≡ skip C b at e
unfolding skip map_c
skip_map {A} f g fg gf C b at e = go (C.read b at e)
  where
    go : (r : Got A) → after e (bind r (λ x n. got (f x) n)) ≡ after e r
    go (got x n) = refl
    go bad = refl

-- numbers
module _ (k : ℕ) (b : List ℕ) (at e : ℕ) where
  pub skip_le : at + k ≤ e → skip (le_c k) b at e ≡ at + k
  unfolding skip le_c
  skip_le h = simp (le-leb _ _ h)

  pub skip_short : e < at + k → skip (le_c k) b at e ≡ e + 1
  unfolding skip le_c
  skip_short h = simp (lt-leb _ _ h)

  pub value_le : at + k ≤ e → value_or 0 ((le_c k).read b at e) ≡ le k b at
  unfolding le_c
  value_le h = simp (le-leb _ _ h)

  pub value_short : e < at + k → value_or 0 ((le_c k).read b at e) ≡ 0
  unfolding le_c
  value_short h = simp (lt-leb _ _ h)

-- enums
unfoldable pub skip_case : {A : Type 0} → Cases A → ℕ → List ℕ → ℕ → ℕ → ℕ
skip_case C k b at e = after e (C.read_case k b at e)

pub skip_enum : {A : Type 0} (C : Cases A) (b : List ℕ) (at e : ℕ) → at < e → skip (enum_c C) b at e ≡ skip_case C (get_or b at 0) b (at + 1) e
unfolding skip skip_case enum_c
skip_enum C b at e h = let q : at + 1 ≤ e = omega arith in simp (le-leb _ _ q)

pub skip_no_case : {A : Type 0} (C : Cases A) (b : List ℕ) (at e : ℕ) → e ≤ at → skip (enum_c C) b at e ≡ e + 1
unfolding skip enum_c
skip_no_case C b at e h = let q : e < at + 1 = omega arith in simp (lt-leb _ _ q)

module _ {A B : Type 0} (C : Codec A) (D : Cases B) (b : List ℕ) (at e : ℕ) where
  pub skip_case_0 : skip_case (C ⊕ D) 0 b at e ≡ skip C b at e
  unfolding skip skip_case ◌⊕◌
  skip_case_0 = go (C.read b at e)
    where
      go : (g : Got A) → after {A = A ⊎ B} e (bind g (λ x n. got (inl x) n)) ≡ after e g
      go (got x n) = refl
      go bad = refl

  pub skip_case_suc : (k : ℕ) → skip_case (C ⊕ D) (suc k) b at e ≡ skip_case D k b at e
  unfolding skip_case ◌⊕◌
  skip_case_suc k = go (D.read_case k b at e)
    where
      go : (g : Got B) → after {A = A ⊎ B} e (bind g (λ x n. got (inr x) n)) ≡ after e g
      go (got x n) = refl
      go bad = refl

pub skip_case_end : (k : ℕ) (b : List ℕ) (at e : ℕ) → skip_case end_c k b at e ≡ e + 1
unfolding skip_case end_c
skip_case_end k b at e = refl

pub skip_unit : (b : List ℕ) (at e : ℕ) → at ≤ e → skip unit_c b at e ≡ at
unfolding skip unit_c
skip_unit b at e h = simp (le-leb _ _ h)

-- ---- what stands at a place

pub value_of : {A : Type 0} (C : Codec A) (b : List ℕ) (e at : ℕ) (v d : A) → Is C b e at v → value_or d (C.read b at e) ≡ v
value_of C b e at v d h = rw h

-- where the place behind it is within the end, a value was read
pub is_good : {A : Type 0} (C : Codec A) (b : List ℕ) (e at : ℕ) (d : A) → skip C b at e ≤ e → Is C b e at (value_or d (C.read b at e))
unfolding skip
is_good {A} C b e at d h = go (C.read b at e) h
  where
    go : (g : Got A) → after e g ≤ e → g ≡ got (value_or d g) (after e g)
    go (got v n) q = refl
    go bad q = absurd (omega arith)
