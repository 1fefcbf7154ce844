-- Laws of the definitions of specs/Kept, and words that only proofs use.
use Rattle.std.specs.Prelude.{ℕ, zero, suc, ◌+◌, ◌*◌, ◌≤◌, ◌<◌, ◌≡◌, refl, List, [], ◌∷◌, ◌++◌, length, get_or, set}
use Rattle.std.proofs.Common.{◌∙◌, arith, zero-mul, suc-mul, length-set, get_or-set_other}
use Rattle.std.proofs.lemmas.List.Edits.{sets}
use Rattle.std.proofs.Math.Seq.{length-sets}
use Rattle.codec.specs.Codec.{Codec}
use Rattle.codec.specs.Skip.{steps}
use Rattle.codec.specs.Rows.{rows, stored}
use Rattle.codec.proofs.Rows.{get_d_sets_in, get_d_sets_out, rows_at, rows_length, sets_append}
use Rattle.spec.specs.Kept.{Kept}

-- the index holds these numbers from a place on
abbrev pub Has : List ℕ → ℕ → List ℕ → Type 0
Has idx from vs = (i : ℕ) → i < length vs → get_or idx (from + i) 0 ≡ get_or vs i 0

get_d_sets_past : (vs l : List ℕ) (p k : ℕ) → p + length vs ≤ k → get_or (sets l p vs) k 0 ≡ get_or l k 0
get_d_sets_past [] l p k h = refl
get_d_sets_past (a ∷ vs) l p k h = get_d_sets_past vs (set l p a) (suc p) k (omega arith) ∙ get_or-set_other l p k a 0 (omega arith)

pub kept_same : (from to : ℕ) (l : List ℕ) → Kept from to l l
kept_same from to l = record { long = refl; below = λ i h. refl; above = λ i h. refl }

pub kept_stored : (from to : ℕ) (l m vs : List ℕ) (p : ℕ) → m ≡ stored l p vs → from ≤ p → p + length vs ≤ to → Kept from to l m
unfolding stored
kept_stored from to l m vs p e h k = rw e (record { long = length-sets l p vs; below = λ i q. get_d_sets_out vs l p i (omega arith); above = λ i q. get_d_sets_past vs l p i (omega arith) })

pub kept_set : (from to : ℕ) (l d new : List ℕ) (k x : ℕ) → Kept from to l d → new ≡ set d k x → from ≤ k → k < to → Kept from to l new
kept_set from to l d new k x h q i j = record {
  long = rw q (length-set d k x ∙ h.long);
  below = λ n m. rw q (get_or-set_other d k n x 0 (omega arith) ∙ h.below n m);
  above = λ n m. rw q (get_or-set_other d k n x 0 (omega arith) ∙ h.above n m);
}

pub kept_then : (from to p q : ℕ) (l d new : List ℕ) → Kept from to l d → Kept p q d new → from ≤ p → q ≤ to → Kept from to l new
kept_then from to p q l d new h k i j = record {
  long = k.long ∙ h.long;
  below = λ n m. k.below n (omega arith) ∙ h.below n m;
  above = λ n m. k.above n (omega arith) ∙ h.above n m;
}

pub kept_wide : (from to from' to' : ℕ) (l m : List ℕ) → from' ≤ from → to ≤ to' → Kept from to l m → Kept from' to' l m
kept_wide from to from' to' l m h k x = record { long = x.long; below = λ i q. x.below i (omega arith); above = λ i q. x.above i (omega arith) }

pub has_stored : (l m vs : List ℕ) (p : ℕ) → m ≡ stored l p vs → p + length vs ≤ length l → Has m p vs
unfolding stored
has_stored l m vs p e h = rw e (λ i q. get_d_sets_in vs l p i q (omega arith))

pub has_below : (l m vs : List ℕ) (at from to : ℕ) → Has l at vs → Kept from to l m → at + length vs ≤ from → Has m at vs
has_below l m vs at from to h k q = λ i r. k.below (at + i) (omega arith) ∙ h i r

pub has_above : (l m vs : List ℕ) (at from to : ℕ) → Has l at vs → Kept from to l m → to ≤ at → Has m at vs
has_above l m vs at from to h k q = λ i r. k.above (at + i) (omega arith) ∙ h i r

-- more numbers behind those that were stored
pub stored_more : (l d d' xs ys : List ℕ) (k n : ℕ) → d ≡ stored l k xs → n ≡ k + length xs → d' ≡ stored d n ys → d' ≡ stored l k (xs ++ ys)
unfolding stored
stored_more l d d' xs ys k n h q i = i ∙ rw (q, h) (sets_append l k xs ys)

-- number j of the row of item i
pub row_has : {A : Type 0} (C : Codec A) (b idx : List ℕ) (e : ℕ) (f : ℕ → List ℕ) (w : ℕ) → ((p : ℕ) → length (f p) ≡ w) → (n at from : ℕ) → Has idx from (rows C b e f n at) → (i j : ℕ) → i < n → j < w → get_or idx (from + i * w + j) 0 ≡ get_or (f (steps C b e i at)) j 0
row_has C b idx e f w l n at from h i j p q =
    let g : from + i * w + j ≡ from + (i * w + j) = omega arith in
    rw g (h (i * w + j) (rw (rows_length C b e f w l n at) (within n i p)) ∙ rows_at C b e f w l n at i j p q)
  where
    within : (n i : ℕ) → i < n → i * w + j < n * w
    within zero i r = absurd (omega arith)
    within (suc n) zero r = let z : zero * w ≡ 0 = zero-mul w in let s : suc n * w ≡ n * w + w = suc-mul n w in omega arith
    within (suc n) (suc i) r = let z : suc i * w ≡ i * w + w = suc-mul i w in let s : suc n * w ≡ n * w + w = suc-mul n w in omega (arith, within n i (omega arith))

pub stored_one : (l d : List ℕ) (k x : ℕ) → d ≡ set l k x → d ≡ stored l k (x ∷ [])
unfolding stored
stored_one l d k x h = h
