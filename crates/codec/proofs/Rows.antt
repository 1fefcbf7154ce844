-- Laws of the definitions of specs/Rows, and words that only proofs use.
use Prim.Native.Nat.{ℕ, zero, suc, ◌+◌, ◌*◌, ◌-◌, ◌≤◌, ◌<◌}
use Rattle.std.specs.Prelude.{◌≡◌, refl, List, [], ◌∷◌, ◌++◌, get_or, set}
use Rattle.std.proofs.Math.Path.{sym}
use Rattle.std.proofs.Common.{ap, ◌∙◌, add-zero, zero-mul, zero-add, sub-one, add-one, length-set, get_or-append-add, get_or-set_same, get_or-set_other}
use native.Mathlib.Omega.{arith}
use Rattle.std.proofs.Math.Nat.{suc-mul}
use Rattle.std.proofs.Math.Numerals.{add-two}
use Rattle.std.proofs.Math.ListN.{length, length-append, get_or-append}
use Rattle.std.proofs.lemmas.List.Edits.{sets}
use Rattle.std.proofs.Math.Seq.{length-sets}
use Rattle.codec.specs.Codec.{Codec}
use Rattle.codec.specs.Skip.{skip, steps, Is}
use Rattle.codec.proofs.Field.{is_in}
use Rattle.codec.specs.Rows.{stored, small, rows}

pub stored_2 : (l d d' : List ℕ) (k x y : ℕ) → d ≡ set l k x → d' ≡ set d (k + 1) y → d' ≡ stored l k (x ∷ y ∷ [])
unfolding stored
stored_2 l d d' k x y h i = i ∙ rw (h, add-one)

pub stored_3 : (l d d' d'' : List ℕ) (k x y z : ℕ) → d ≡ set l k x → d' ≡ set d (k + 1) y → d'' ≡ set d' (k + 2) z → d'' ≡ stored l k (x ∷ y ∷ z ∷ [])
unfolding stored
stored_3 l d d' d'' k x y z h i j = j ∙ rw (i, h, add-one, add-two)

pub sets_append : (d : List ℕ) (p : ℕ) (xs bs : List ℕ) → sets (sets d p xs) (p + length xs) bs ≡ sets d p (xs ++ bs)
sets_append d p [] bs = rw add-zero
sets_append d p (a ∷ xs) bs = let e : p + suc (length xs) ≡ suc p + length xs = omega arith in rw e (sets_append (set d p a) (suc p) xs bs)

pub get_d_sets_out : (vs l : List ℕ) (p k : ℕ) → k < p → get_or (sets l p vs) k 0 ≡ get_or l k 0
get_d_sets_out [] l p k h = refl
get_d_sets_out (a ∷ vs) l p k h = get_d_sets_out vs (set l p a) (suc p) k (omega arith) ∙ get_or-set_other l p k a 0 (omega arith)

pub get_d_sets_in : (vs l : List ℕ) (p k : ℕ) → k < length vs → p + k < length l → get_or (sets l p vs) (p + k) 0 ≡ get_or vs k 0
get_d_sets_in [] l p k h q = absurd (omega arith)
get_d_sets_in (a ∷ vs) l p zero h q = rw add-zero (get_d_sets_out vs (set l p a) (suc p) p (omega arith) ∙ get_or-set_same l p a 0 (omega arith))
get_d_sets_in (a ∷ vs) l p (suc k) h q =
    let e : p + suc k ≡ suc p + k = omega arith in
    rw e (get_d_sets_in vs (set l p a) (suc p) k (omega arith) (rw length-set (omega arith)))

module _ {A : Type 0} (C : Codec A) (b : List ℕ) (e : ℕ) (f : ℕ → List ℕ) where
  -- what a loop that stores the rows needs: x is the index at the end, of which n rows are left, from the place p and at the number k
  pub rows_next : (x l d : List ℕ) (k w n p q : ℕ) → x ≡ stored l k (rows C b e f n p) → 0 < n → w ≡ length (f p) → q ≡ skip C b p e → d ≡ stored l k (f p) → x ≡ stored d (k + w) (rows C b e f (n - 1) q)
  unfolding rows stored
  rows_next x l d k w zero p q h m i g j = absurd (omega arith)
  rows_next x l d k w (suc n) p q h m i g j = h ∙ rw (sub-one, i, j, g) (sym (sets_append l k (f p) (rows C b e f n (skip C b p e))))

  pub rows_done : (x l : List ℕ) (k n p : ℕ) → x ≡ stored l k (rows C b e f n p) → n ≤ 0 → l ≡ x
  unfolding rows stored
  rows_done x l k n p h q = let z : n ≡ 0 = omega arith in sym (h ∙ rw z)

  pub rows_long : (l₀ l r : List ℕ) (k₀ k n p : ℕ) → stored l₀ k₀ r ≡ stored l k (rows C b e f n p) → length l ≡ length l₀
  unfolding stored
  rows_long l₀ l r k₀ k n p h = sym (length-sets l k (rows C b e f n p)) ∙ sym (ap length h) ∙ length-sets l₀ k₀ r

  pub rows_length : (w : ℕ) → ((p : ℕ) → length (f p) ≡ w) → (n at : ℕ) → length (rows C b e f n at) ≡ n * w
  unfolding rows
  rows_length w h zero at = sym (zero-mul w)
  rows_length w h (suc n) at = length-append (f at) (rows C b e f n (skip C b at e)) ∙ rw (h at, rows_length w h n (skip C b at e), suc-mul) (omega arith)

  pub rows_at : (w : ℕ) → ((p : ℕ) → length (f p) ≡ w) → (n at i j : ℕ) → i < n → j < w → get_or (rows C b e f n at) (i * w + j) 0 ≡ get_or (f (steps C b e i at)) j 0
  unfolding rows steps
  rows_at w h zero at i j p q = absurd (omega arith)
  rows_at w h (suc n) at zero j p q =
      let l : length (f at) ≡ w = h at in
      rw (zero-mul, zero-add) (get_or-append (f at) (rows C b e f n (skip C b at e)) 0 j (omega arith))
  rows_at w h (suc n) at (suc i) j p q =
      let l : length (f at) ≡ w = h at in
      let m : suc i * w ≡ i * w + w = suc-mul i w in
      let s : suc i * w + j ≡ length (f at) + (i * w + j) = omega arith in
      rw s (get_or-append-add (f at) (rows C b e f n (skip C b at e)) (i * w + j) 0 ∙ rows_at w h n (skip C b at e) i j (omega arith) q)

-- a place that was stored in 16 bits is the place
pub is_small : {A : Type 0} (C : Codec A) (b : List ℕ) (e at p : ℕ) (v : A) → e < 65536 → p ≡ small at → Is C b e at v → Is C b e p v
is_small C b e at p v h q k =
    let i : at ≤ e = is_in C b e at v k in
    let j : p ≡ at = omega arith in
    rw j k
