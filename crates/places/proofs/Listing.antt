-- Members of lists, two by two.
use mathlib.Core.List.{List, [], ◌∷◌}
use mathlib.Core.Bool.{Bool}
use mathlib.Core.Path.{sym}
use Rattle.codec.specs.Limits.{any_of}
use Rattle.nest.specs.Lists.{All}
use Rattle.complete.specs.Complete.{Pairs, Each2}
use Rattle.codes.proofs.Refutes.{Refutes}
use Rattle.places.specs.Spots.{pairs}
use Rattle.codes.proofs.Laws.{no_way, refute_as, refute_either, refute_all}
use Rattle.codes.proofs.Listing.{all_map, all_both, all_any}

module _ {A : Type 0} where
  pub pairs_map : (R S : A → A → Type 0) → ((x y : A) → R x y → S x y) → (xs : List A) → Pairs R xs → Pairs S xs
  pairs_map R S f [] h = tt
  pairs_map R S f (x ∷ xs) h = (all_map (R x) (S x) (f x) xs h.0, pairs_map R S f xs h.1)

  pub pairs_both : (R S : A → A → Type 0) (xs : List A) → Pairs R xs → Pairs S xs → Pairs (λ x y. R x y × S x y) xs
  pairs_both R S [] h i = tt
  pairs_both R S (x ∷ xs) h i = (all_both (R x) (S x) xs h.0 i.0, pairs_both R S xs h.1 i.1)

  pub pairs_any : (R : A → A → Type 0) → ((x y : A) → R x y) → (xs : List A) → Pairs R xs
  pairs_any R f [] = tt
  pairs_any R f (x ∷ xs) = (all_any (R x) (f x) xs, pairs_any R f xs)

  -- in any order is in both orders
  pub pairs_each : (R : A → A → Type 0) → ((x : A) → R x x) → (xs : List A) → Pairs (λ x y. R x y × R y x) xs → Each2 R xs
  pairs_each R f [] h = tt
  pairs_each R f (x ∷ xs) h = (
    (f x, all_map (λ y. R x y × R y x) (R x) (λ y q. q.0) xs h.0),
    all_both (λ y. R y x) (λ y. All (R y) xs) xs (all_map (λ y. R x y × R y x) (λ y. R y x) (λ y q. q.1) xs h.0) (pairs_each R f xs h.1),
  )

  pub each_pairs : (R : A → A → Type 0) (xs : List A) → Each2 R xs → Pairs (λ x y. R x y × R y x) xs
  each_pairs R [] h = tt
  each_pairs R (x ∷ xs) h = (
    all_both (R x) (λ y. R y x) xs h.0.1 (all_map (λ y. R y x × All (R y) xs) (λ y. R y x) (λ y q. q.0) xs h.1),
    each_pairs R xs (all_map (λ y. R y x × All (R y) xs) (λ y. All (R y) xs) (λ y q. q.1) xs h.1),
  )

  -- what a walk over members and those behind each refutes
  pub refute_pairs : (u : A → Bool) (f : A → A → Bool) (U : A → Type 0) (R : A → A → Type 0) → ((x : A) → Refutes (u x) (U x)) → ((x y : A) → Refutes (f x y) (R x y))
      → (xs : List A) → Refutes (pairs u f xs) (All U xs × Pairs R xs)
  unfolding pairs
  refute_pairs u f U R h k [] = (λ i. (tt, tt), λ i. no_way (sym i))
  refute_pairs u f U R h k (x ∷ xs) = refute_as _ ((U x × All (R x) xs) × (All U xs × Pairs R xs)) _
      (λ q. ((q.0.0, q.1.0), (q.0.1, q.1.1))) (λ q. ((q.0.0, q.1.0), (q.0.1, q.1.1)))
      (refute_either _ _ _ _ (refute_either (u x) (any_of (f x) xs) (U x) (All (R x) xs) (h x) (refute_all (f x) (R x) (k x) xs)) (refute_pairs u f U R h k xs))
