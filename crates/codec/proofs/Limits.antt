-- Laws of the definitions of specs/Limits, and words that only proofs use.
use Prim.Native.Nat.{ℕ, zero, suc, ◌+◌, ◌-◌, ◌≤◌, ◌<◌}
use Rattle.std.specs.Prelude.{◌≡◌, Bool, true, false, length, get_or}
use Rattle.std.proofs.Math.Path.{refl, sym}
use Rattle.std.proofs.Common.{◌∙◌}
use mathlib.Core.List.{List, [], ◌∷◌}
use native.Mathlib.Omega.{arith}
use Rattle.std.proofs.Math.Numerals.{sub-one}
use Rattle.codec.specs.Codec.{Codec, pick, le_c}
use Rattle.codec.specs.Skip.{skip, steps, count_at, Is}
use Rattle.codec.proofs.Skip.{skip_le, value_le}
use Rattle.codec.proofs.Field.{ListIs}
use Rattle.codec.specs.Limits.{any, any_of}

-- no test of a list holds
pub none_of : (t : Bool) (ts : List Bool) → any (t ∷ ts) ≡ false → (t ≡ false) × (any ts ≡ false)
unfolding any
none_of false ts h = (refl, h)
none_of true ts h = absurd (let z : ◌≡◌ {A = ℕ} 0 1 = cc in omega arith)

pub any_cons : (t : Bool) (ts : List Bool) → any (t ∷ ts) ≡ pick t true (any ts)
unfolding any
any_cons t ts = refl

pub alone : (t : Bool) → t ≡ pick t true false
alone true = refl
alone false = refl

pub any_nil : any [] ≡ false
unfolding any
any_nil = refl

-- no item passes the test
pub none_in : {A : Type 0} (f : A → Bool) (xs : List A) → any_of f xs ≡ false → (i : ℕ) (d : A) → i < length xs → f (get_or xs i d) ≡ false
unfolding any_of
none_in f [] h i d q = absurd (omega arith)
none_in {A} f (x ∷ xs) h i d q = go (f x) refl h (none_in f xs) i q
  where
    go : (t : Bool) → f x ≡ t → pick t true (any_of f xs) ≡ false → (any_of f xs ≡ false → (i : ℕ) (d : A) → i < length xs → f (get_or xs i d) ≡ false) → (i : ℕ) → i < length (x ∷ xs) → f (get_or (x ∷ xs) i d) ≡ false
    go true k h ih i q = absurd (let z : ◌≡◌ {A = ℕ} 0 1 = cc in omega arith)
    go false k h ih zero q = k
    go false k h ih (suc i) q = ih h i d (omega arith)

-- the same over n places from at on
unfoldable pub any_at : {A : Type 0} → Codec A → List ℕ → ℕ → (ℕ → Bool) → ℕ → ℕ → Bool
any_at C b e t zero at = false
any_at C b e t (suc n) at = pick (t at) true (any_at C b e t n (skip C b at e))

module _ {A : Type 0} (C : Codec A) (b : List ℕ) (e : ℕ) (t : ℕ → Bool) where
  items_any : (f : A → Bool) → ((at : ℕ) (v : A) → Is C b e at v → t at ≡ f v) → (vs : List A) (at : ℕ)
      → ((i : ℕ) (d : A) → i < length vs → Is C b e (steps C b e i at) (get_or vs i d)) → any_at C b e t (length vs) at ≡ any_of f vs
  unfolding any_at any_of steps
  items_any f h [] at g = refl
  items_any f h (x ∷ xs) at g =
      rw (h at x (g 0 x (omega arith)), items_any f h xs (skip C b at e) (λ i d q. g (suc i) d (omega arith)))

  pub any_list : (f : A → Bool) → ((at : ℕ) (v : A) → Is C b e at v → t at ≡ f v) → (at : ℕ) (vs : List A) → ListIs C b e at vs → any_at C b e t (count_at b at e) (skip (le_c 4) b at e) ≡ any_of f vs
  unfolding count_at
  any_list f h at vs l = rw (value_le 4 b at e l.room, ← l.counted, skip_le 4 b at e l.room) (items_any f h vs (at + 4) l.item)

  -- ---- what a loop over the items needs
  any_next : (n at : ℕ) → 0 < n → any_at C b e t n at ≡ pick (t at) true (any_at C b e t (n - 1) (skip C b at e))
  unfolding any_at
  any_next zero at h = absurd (omega arith)
  any_next (suc n) at h = rw sub-one

  pub any_start : (n p at : ℕ) → n ≡ count_at b at e → p ≡ skip (le_c 4) b at e → any_at C b e t (count_at b at e) (skip (le_c 4) b at e) ≡ any_at C b e t n p
  any_start n p at i j = rw (← i, ← j)

  pub any_again : (a : Bool) (n p q : ℕ) → a ≡ any_at C b e t n p → 0 < n → t p ≡ false → q ≡ skip C b p e → a ≡ any_at C b e t (n - 1) q
  any_again a n p q i h k j = i ∙ any_next n p h ∙ rw (k, ← j)

  pub any_found : (a : Bool) (n p : ℕ) → a ≡ any_at C b e t n p → 0 < n → t p ≡ true → true ≡ a
  any_found a n p i h k = sym (i ∙ any_next n p h ∙ rw k)

  pub any_done : (a : Bool) (n p : ℕ) → a ≡ any_at C b e t n p → n ≤ 0 → false ≡ a
  unfolding any_at
  any_done a n p i h = let z : n ≡ 0 = omega arith in sym (i ∙ rw z)
