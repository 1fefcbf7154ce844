-- Components are compared as their ranks are, and places by their elements first.
use Prim.Native.Nat.{ℕ, suc}
use mathlib.Core.Path.{◌≡◌, refl, sym, ap, ◌∙◌}
use mathlib.Core.Logic.{◌≢◌}
use mathlib.Core.Bool.{Bool, true, false, not, beq}
use native.Mathlib.Omega.{arith}
use Rattle.std.specs.Prelude.{Option, None, Some, is_some}
use Rattle.std.proofs.Common.{Ordering, Less, Equal, Greater}
use Rattle.std.specs.Ordering.{is_lt, is_some_and, nat_cmp, partial_lt, partial_ordering_then}
use Rattle.std.specs.Option.{option_eq, option_partial_cmp}
use Rattle.std.specs.Cmp.{nat_cmp_is}
use lib.Dec.{eqb, ltb}
use borrow.Author.Tests.{eq-eqb, ne_eqb, eqb-true, eqb-false, lt-ltb, le-ltb, ltb-true, ltb-false}
use Rattle.codec.specs.Codec.{pick}
use Rattle.segment.specs.Parts.{rank}
use Rattle.codes.specs.Rules.{low}
use Rattle.says.proofs.Walk.{both, only}
use Rattle.places.specs.declared.spots.Spot.{Spot}
use Rattle.places.specs.Spots.{front, wrong_spot}

suc_eqb : (a b : ℕ) → eqb (suc a) (suc b) ≡ eqb a b
suc_eqb a b = go (eqb a b) refl
  where
    go : (t : Bool) → eqb a b ≡ t → eqb (suc a) (suc b) ≡ t
    go true h = let z : a ≡ b = eqb-true _ _ h in eq-eqb _ _ (ap suc z)
    go false h = ne_eqb _ _ (λ i. eqb-false _ _ h (omega (arith, i)))

suc_ltb : (a b : ℕ) → ltb (suc a) (suc b) ≡ ltb a b
suc_ltb a b = go (ltb a b) refl
  where
    go : (t : Bool) → ltb a b ≡ t → ltb (suc a) (suc b) ≡ t
    go true h = lt-ltb _ _ (omega (arith, ltb-true a b h))
    go false h = le-ltb _ _ (omega (arith, ltb-false a b h))

-- components are compared as their ranks are
pub rank_eqb : (o p : Option ℕ) → option_eq eqb o p ≡ eqb (rank o) (rank p)
rank_eqb None None = refl
rank_eqb None (Some d) = sym (ne_eqb 0 (suc d) (omega arith))
rank_eqb (Some c) None = sym (ne_eqb (suc c) 0 (omega arith))
rank_eqb (Some c) (Some d) = sym (suc_eqb c d)

pub rank_mixed : (o p : Option ℕ) → not (beq (is_some o) (is_some p)) ≡ pick (eqb (rank o) 0) (not (eqb (rank p) 0)) (eqb (rank p) 0)
rank_mixed None None = refl
rank_mixed None (Some d) = sym (rw (ne_eqb (suc d) 0 (omega arith)))
rank_mixed (Some c) None = sym (rw (ne_eqb (suc c) 0 (omega arith)))
rank_mixed (Some c) (Some d) = sym (rw (ne_eqb (suc c) 0 (omega arith), ne_eqb (suc d) 0 (omega arith)))

cmp_by : (a b : ℕ) (f : Ordering → Bool) → f (nat_cmp a b) ≡ pick (ltb a b) (f Less) (pick (eqb a b) (f Equal) (f Greater))
cmp_by a b f = go (ltb a b) (eqb a b) refl refl
  where
    go : (s u : Bool) → ltb a b ≡ s → eqb a b ≡ u → f (nat_cmp a b) ≡ pick s (f Less) (pick u (f Equal) (f Greater))
    go true u p q = let z : Less ≡ nat_cmp a b = nat_cmp_is a b Less (ltb-true _ _ p) in rw (← z)
    go false true p q = let z : Equal ≡ nat_cmp a b = nat_cmp_is a b Equal (eqb-true _ _ q) in rw (← z)
    go false false p q =
        let n : a ≢ b = eqb-false _ _ q in
        let z : Greater ≡ nat_cmp a b = nat_cmp_is a b Greater (omega (arith, n, ltb-false a b p)) in
        rw (← z)

abbrev NatOrder : ℕ → ℕ → Option Ordering
NatOrder a b = Some (nat_cmp a b)

rank_lt : (o p : Option ℕ) → is_some_and is_lt (option_partial_cmp NatOrder o p) ≡ ltb (rank o) (rank p)
rank_lt None None = refl
rank_lt None (Some d) = sym (lt-ltb 0 (suc d) (omega arith))
rank_lt (Some c) None = sym (le-ltb (suc c) 0 (omega arith))
rank_lt (Some c) (Some d) = cmp_by c d is_lt ∙ (go (ltb c d) (eqb c d) ∙ sym (suc_ltb c d))
  where
    go : (s u : Bool) → pick s true (pick u false false) ≡ s
    go true u = refl
    go false true = refl
    go false false = refl

pub front_is : (x y : Spot) → partial_lt (λ (p q : ℕ × Option ℕ). partial_ordering_then (NatOrder p.0 q.0) (option_partial_cmp NatOrder p.1 q.1)) (x.element, x.component) (y.element, y.component) ≡ front x y
unfolding front
front_is x y =
    cmp_by x.element y.element (λ r. is_some_and is_lt (partial_ordering_then (Some r) (option_partial_cmp NatOrder x.component y.component)))
    ∙ rw (rank_lt x.component y.component)

pub spot_says : (step : ℕ) (x : Spot) (r : Bool) → r ≡ pick (ltb x.element 1) true (pick (option_eq eqb x.component (Some 0)) true (pick (eqb step 0) (ltb 1 x.reach) false)) → r ≡ wrong_spot step x
unfolding wrong_spot low
spot_says step x r h = both _ _ _ _ _ h refl (both _ _ _ _ _ refl (rank_eqb x.component (Some 0)) (only _ _ refl))
