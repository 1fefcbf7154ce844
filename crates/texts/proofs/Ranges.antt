-- Signed numbers within bounds: the ways of `in_range`, and what its answer says.
use Rattle.std.proofs.Common.{◌≡◌, ℕ, ◌<◌, ◌≤◌, Bool, true, false, leb, ltb, eqb, ◌&&◌, eqb-true, ltb-false, ℤ, pos, negsuc, nat_abs, sym, refl, ap, ◌∙◌, arith, to_z-of_z, w32, SFits, ltb-true, le-leb, leb-true, Some, None, Result, Ok, Err}
use borrow.Author.Tests.{lt-leb, eqb-false}
use mathlib.Core.Bool.{false≢true}
use Rattle.std.specs.Bool.{then_some}
use Rattle.std.specs.Ordering.{nat_cmp, as_partial_cmp, partial_le}
use Rattle.std.specs.Range.{range_inclusive_start, range_inclusive_end, range_inclusive_exhausted, range_inclusive_contains}
use Rattle.std.specs.declared.ops.RangeInclusive.{RangeInclusive}
use Rattle.std.specs.Result.{OkIff, is_ok, result_ok}
use Rattle.std.specs.Int.{FitsUnsignedBits}
use Rattle.std.proofs.lemmas.Option.{none-some, same_Some}
use Rattle.texts.specs.Ranged.{ranged_of, pick_ranged}
use Rattle.texts.specs.DateText.{between}
use Rattle.texts.proofs.Sums.{Back}

-- a number that is no u32 is negative
pub no_u32 : {E : Type 0} (low high : ℕ) (d : ℤ) (t : Result ℕ E) → SFits w32 d → OkIff t (FitsUnsignedBits 32 (Back d)) (nat_abs (Back d)) → false ≡ is_ok t → None ≡ ranged_of low high d
unfolding ranged_of
no_u32 low high d (Ok x) f h e = absurd (false≢true e)
no_u32 low high d (Err x) f h e = go d f (rw (to_z-of_z f) at h)
  where
    go : (d : ℤ) → SFits w32 d → (FitsUnsignedBits 32 d → ⊥) → None ≡ ranged_of low high d
    go (pos n) f h = absurd (h (omega (arith, f.sfits)))
    go (negsuc n) f h = refl

-- and one that is a u32 is that
pub u32_is : {E : Type 0} (d : ℤ) (n : ℕ) (t : Result ℕ E) → SFits w32 d → OkIff t (FitsUnsignedBits 32 (Back d)) (nat_abs (Back d)) → Some n ≡ result_ok t → pos n ≡ d
u32_is d n (Err x) f h e = absurd (none-some _ (sym e))
u32_is d n (Ok x) f h e = go d (rw (to_z-of_z f) at h)
  where
    go : (d : ℤ) → FitsUnsignedBits 32 d × (x ≡ nat_abs d) → pos n ≡ d
    go (pos m) h = ap pos (same_Some _ _ e ∙ h.1)
    go (negsuc m) h = absurd h.0

le_tells : (x y : ℕ) → partial_le (as_partial_cmp nat_cmp) x y ≡ leb x y
le_tells x y = go (ltb x y) refl (eqb x y) refl
  where
    go : (s : Bool) → ltb x y ≡ s → (t : Bool) → eqb x y ≡ t → partial_le (as_partial_cmp nat_cmp) x y ≡ leb x y
    go true p t q = let h : x ≤ y = omega (arith, ltb-true x y p) in simp (p, le-leb x y h)
    go false p true q = let h : x ≤ y = omega (arith, eqb-true x y q) in simp (p, q, le-leb x y h)
    go false p false q = let h : y < x = omega (arith, ltb-false x y p, eqb-false x y q) in simp (p, q, lt-leb x y h)

pub contained : (s : RangeInclusive ℕ) (low high n : ℕ) (r : Bool) → range_inclusive_start s ≡ low → range_inclusive_end s ≡ high → range_inclusive_exhausted s ≡ false
    → r ≡ range_inclusive_contains (as_partial_cmp nat_cmp) s n → then_some r n ≡ ranged_of low high (pos n)
unfolding ranged_of
contained s low high n r a b x e = rw (e, a, b, x, le_tells low n, le_tells n high) (go (leb low n) (leb n high))
  where
    go : (s t : Bool) → then_some (s && t) n ≡ pick_ranged s (pick_ranged t (Some n) None) None
    go true true = refl
    go true false = refl
    go false t = refl

-- a number within bounds
pub record Inside (low high : ℕ) (z : ℤ) (n : ℕ) : Type 0 where
  pub is : z ≡ pos n
  pub from : low ≤ n
  pub to : n ≤ high

inside : (low high : ℕ) (z : ℤ) (n : ℕ) → ranged_of low high z ≡ Some n → Inside low high z n
unfolding ranged_of
inside low high (negsuc m) n e = absurd (none-some n e)
inside low high (pos m) n e = go (leb low m) refl (leb m high) refl e
  where
    go : (s : Bool) → leb low m ≡ s → (t : Bool) → leb m high ≡ t → pick_ranged s (pick_ranged t (Some m) None) None ≡ Some n → Inside low high (pos m) n
    go false p t q h = absurd (none-some n h)
    go true p false q h = absurd (none-some n h)
    go true p true q h =
        let k : m ≡ n = cc in
        record { is = ap pos k; from = omega (arith, leb-true low m p); to = omega (arith, leb-true m high q) }

outside : (low high : ℕ) (z : ℤ) → ranged_of low high z ≡ None → between low high z ≡ false
unfolding ranged_of
outside low high (negsuc m) e = refl
outside low high (pos m) e = go (leb low m) refl (leb m high) refl e
  where
    go : (s : Bool) → leb low m ≡ s → (t : Bool) → leb m high ≡ t → pick_ranged s (pick_ranged t (Some m) None) None ≡ None → between low high (pos m) ≡ false
    go false p t q h = simp p
    go true p false q h = simp (p, q)
    go true p true q h = absurd (none-some m (sym h))

-- the same of a number that is read back from its bits
module _ (low high : ℕ) (z : ℤ) (f : SFits w32 z) where
  pub ranged_is : (n : ℕ) → ranged_of low high (Back z) ≡ Some n → Inside low high z n
  ranged_is n e = inside low high z n (ap (ranged_of low high) (sym (to_z-of_z f)) ∙ e)

  pub ranged_out : ranged_of low high (Back z) ≡ None → between low high z ≡ false
  ranged_out e = outside low high z (ap (ranged_of low high) (sym (to_z-of_z f)) ∙ e)

pub within : (low high n : ℕ) → low ≤ n → n ≤ high → between low high (pos n) ≡ true
within low high n h k = simp (le-leb _ _ h, le-leb _ _ k)
