-- Laws of the definitions of specs/Words, and words that only proofs use.
use Rattle.std.specs.Prelude.{ℕ, zero, suc, ◌+◌, ◌<◌, ◌≡◌, refl, List, [], ◌∷◌, Bool, true, false, length, get_or, Option, None, Some}
use Rattle.std.proofs.Common.{arith, add-zero}
use Rattle.codec.specs.Codec.{pick}
use Rattle.format.specs.Words.{any_from, if_some}

-- no item passes the test
pub none_from : {A : Type 0} (f : ℕ → A → Bool) (k : ℕ) (xs : List A) → any_from f k xs ≡ false → (i : ℕ) (d : A) → i < length xs → f (k + i) (get_or xs i d) ≡ false
unfolding any_from
none_from f k [] h i d q = absurd (omega arith)
none_from {A} f k (x ∷ xs) h i d q = go (f k x) refl h (none_from f (k + 1) xs) i q
  where
    go : (t : Bool) → f k x ≡ t → pick t true (any_from f (k + 1) xs) ≡ false → (any_from f (k + 1) xs ≡ false → (i : ℕ) (d : A) → i < length xs → f (k + 1 + i) (get_or xs i d) ≡ false) → (i : ℕ) → i < length (x ∷ xs) → f (k + i) (get_or (x ∷ xs) i d) ≡ false
    go true r h ih i q = absurd (let z : ◌≡◌ {A = ℕ} 0 1 = cc in omega arith)
    go false r h ih zero q = rw add-zero r
    go false r h ih (suc i) q = let e : k + suc i ≡ k + 1 + i = omega arith in rw e (ih h i d (omega arith))

-- a value that is there does not pass the test
pub none_some : {A : Type 0} (f : A → Bool) (o : Option A) → if_some f o ≡ false → (x : A) → o ≡ Some x → f x ≡ false
unfolding if_some
none_some f None h x q = absurd (let z : ◌≡◌ {A = ℕ} 0 1 = cc in omega arith)
none_some f (Some y) h x q = let w : y ≡ x = cc in rw w at h
