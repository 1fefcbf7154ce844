-- The numbers below n, tested one after the other.
use Rattle.std.proofs.Common.{ℕ, zero, suc, ◌+◌, ◌-◌, ◌<◌, ◌≤◌, ◌≡◌, refl, sym, ap, ◌∙◌, Bool, true, false, ◌&&◌, List, length, get_or, set, replicate, Option, Some}
use Rattle.std.proofs.lemmas.List.{get_or-replicate, get_or-set_other, length-set}
use Rattle.std.proofs.lemmas.Grind.{get_or-set_at}
use Rattle.std.proofs.lemmas.Bool.{eq-eqb, ne_eqb}
use native.Mathlib.Omega.{arith}
use native.Mathlib.Decide.{dec_lt, ℕ_discrete}
use Rattle.std.proofs.Math.Bool.{and-false}
use Rattle.nest.specs.Lists.{once}
use Rattle.walk.specs.Check.{each_below, how_many}
use Rattle.paths.specs.Tests.{GivesAs, gives_number}

module _ (p : ℕ → Bool) where
  pub each_all : (n : ℕ) → ((i : ℕ) → i < n → p i ≡ true) → each_below n p ≡ true
  each_all zero h = refl
  each_all (suc n) h = rw (h n (omega arith)) (each_all n (λ i k. h i (omega arith)))

  pub each_bad : (n k : ℕ) → k < n → p k ≡ false → each_below n p ≡ false
  each_bad zero k h e = absurd (omega arith)
  each_bad (suc n) k h e = go (each_bad n k) (dec_lt k n)
    where
      go : (k < n → p k ≡ false → each_below n p ≡ false) → Dec (k < n) → (p n && each_below n p) ≡ false
      go more (yes l) = rw (more l e) (and-false (p n))
      go more (no l) = let q : n ≡ k = omega arith in rw (ap p q ∙ e)

  -- from the last on: those from k - 1 on, where those from k on pass
  pub down_more : (k n : ℕ) → ((i : ℕ) → k ≤ i → i < n → p i ≡ true) → 0 < k → p (k - 1) ≡ true → (i : ℕ) → k - 1 ≤ i → i < n → p i ≡ true
  down_more k n h z e i a b = go (dec_lt i k)
    where
      go : Dec (i < k) → p i ≡ true
      go (yes l) = let q : i ≡ k - 1 = omega arith in ap p q ∙ e
      go (no l) = h i (omega arith) b

-- how often numbers below 32 were given so far
pub record CountedSoFar (post : ℕ → Option ℕ → Type 0) (n i : ℕ) (xs : List ℕ) : Type 0 where
  pub size : length xs ≡ 32
  pub few : (k : ℕ) → k < 32 → get_or xs k 0 ≤ i
  pub counts : (p : ℕ → Option ℕ) → GivesAs post p n → (k : ℕ) → k < 32 → get_or xs k 0 ≡ how_many i (λ j. gives_number (p j) k)

module _ (post : ℕ → Option ℕ → Type 0) (n : ℕ) where
  pub counted_none : CountedSoFar post n 0 (replicate 32 0)
  counted_none = record {
    size = refl;
    few = λ k h. omega (arith, get_or-replicate {A = ℕ} 32 k 0 0 h);
    counts = λ p g k h. get_or-replicate {A = ℕ} 32 k 0 0 h;
  }

  -- what gives none of them leaves the counts
  pub counted_other : (i : ℕ) (xs : List ℕ) (r : Option ℕ) → CountedSoFar post n i xs → i < n → post i r → ((k : ℕ) → k < 32 → gives_number r k ≡ false) → CountedSoFar post n (i + 1) xs
  counted_other i xs r s l q f = record {
    size = s.size;
    few = λ k h. omega (arith, s.few k h);
    counts = λ p g k h. let e : i + 1 ≡ suc i = omega arith in rw e (s.counts p g k h ∙ sym (omega (arith, ap once (ap (λ o. gives_number o k) (sym (g i r l q)) ∙ f k h))));
  }

  pub counted_more : (i v : ℕ) (xs : List ℕ) → CountedSoFar post n i xs → i < n → v < 32 → post i (Some v) → CountedSoFar post n (i + 1) (set xs v (get_or xs v 0 + 1))
  counted_more i v xs s l b q = record {
    size = length-set xs v _ ∙ s.size;
    few = λ k h. few k h (ℕ_discrete k v);
    counts = λ p g k h. let e : i + 1 ≡ suc i = omega arith in rw e (counts p g k h (ℕ_discrete k v));
  }
    where
      there : v < length xs
      there = omega (arith, s.size)

      few : (k : ℕ) → k < 32 → Dec (k ≡ v) → get_or (set xs v (get_or xs v 0 + 1)) k 0 ≤ i + 1
      few k h (yes e) = omega (arith, get_or-set_at xs v k (get_or xs v 0 + 1) 0 e there, s.few v b)
      few k h (no d) = omega (arith, get_or-set_other xs v k (get_or xs v 0 + 1) 0 d, s.few k h)

      counts : (p : ℕ → Option ℕ) → GivesAs post p n → (k : ℕ) → k < 32 → Dec (k ≡ v)
          → get_or (set xs v (get_or xs v 0 + 1)) k 0 ≡ once (gives_number (p i) k) + how_many i (λ j. gives_number (p j) k)
      counts p g k h (yes e) =
          let o : once (gives_number (p i) k) ≡ 1 = ap once (ap (λ x. gives_number x k) (sym (g i (Some v) l q)) ∙ eq-eqb v k (sym e)) in
          omega (arith, get_or-set_at xs v k (get_or xs v 0 + 1) 0 e there, ap (λ x. get_or xs x 0) e, s.counts p g k h, o)
      counts p g k h (no d) =
          let o : once (gives_number (p i) k) ≡ 0 = ap once (ap (λ x. gives_number x k) (sym (g i (Some v) l q)) ∙ ne_eqb v k (λ z. d (sym z))) in
          omega (arith, get_or-set_other xs v k (get_or xs v 0 + 1) 0 d, s.counts p g k h, o)
