-- The loops that orders and roots name have numbers below 32.
use Prim.Native.Nat.{ℕ, zero, suc, ◌<◌}
use mathlib.Core.Path.{◌≡◌, refl, sym, ap}
use mathlib.Core.Bool.{Bool, true, false}
use mathlib.Core.List.{List, [], ◌∷◌}
use native.Mathlib.Omega.{arith}
use lib.ListN.{length, get_or, get_or-eq_default}
use lib.Dec.{ltb}
use borrow.Author.Tests.{ltb-true, ltb-false, leb-false}
use Rattle.codec.specs.Codec.{pick}
use Rattle.codec.specs.Limits.{any_of}
use Rattle.codec.proofs.Limits.{none_of, none_in}
use Rattle.format.specs.Layout.{Item, segment_item, loop_item}
use Rattle.format.specs.Sections.{job_of}
use Rattle.format.specs.Refusal.{tangled, tangled_loops, outside, outside_order, loops_in}
use Rattle.format.specs.Passed.{Passed}
use Rattle.format.proofs.Passed.{few}
use Rattle.format.specs.Ask as A
use Rattle.format.specs.Orders
use Rattle.plan.specs.Answers.{no_item}

none_after : {A : Type 0} (f : A → Bool) (x : A) (xs : List A) → any_of f (x ∷ xs) ≡ false → any_of f xs ≡ false
unfolding any_of
none_after f x xs h = go (f x) h
  where
    go : (b : Bool) → pick b true (any_of f xs) ≡ false → any_of f xs ≡ false
    go true q = absurd (let z : ◌≡◌ {A = ℕ} 0 1 = cc in omega arith)
    go false q = q

in_order : (n : ℕ) (its : List Item) (i k : ℕ) → any_of (outside n) (loops_in its) ≡ false → i < length its → get_or its i no_item ≡ loop_item k → outside n k ≡ false
unfolding loops_in
in_order n [] i k f h e = absurd (omega arith)
in_order n (segment_item m ∷ its) zero k f h e = absurd (let z : ◌≡◌ {A = ℕ} 0 1 = cc in omega arith)
in_order n (segment_item m ∷ its) (suc i) k f h e = in_order n its i k f (omega arith) e
in_order n (loop_item l ∷ its) zero k f h e = let q : l ≡ k = cc in rw (← q) (none_in (outside n) (l ∷ loops_in its) f 0 0 (omega arith))
in_order n (loop_item l ∷ its) (suc i) k f h e = in_order n its i k (none_after (outside n) l (loops_in its) f) (omega arith) e

pub order_small : (b : List ℕ) → Passed b → (l i n k : ℕ) → n ≡ length (Orders.order_of (job_of b) l) → i < n → loop_item k ≡ get_or (Orders.order_of (job_of b) l) i no_item → k < 32
unfolding Orders.order_of tangled outside_order outside
order_small b w l i n k c h e = go (ltb l (length (job_of b).layout.order)) refl (rw (← c) h) e
  where
    go : (u : Bool) → ltb l (length (job_of b).layout.order) ≡ u → i < length (get_or (job_of b).layout.order l []) → loop_item k ≡ get_or (get_or (job_of b).layout.order l []) i no_item → k < 32
    go true q m z =
        let x = none_in (outside_order (length (job_of b).spec.loops)) (job_of b).layout.order (none_of _ _ (none_of _ _ (none_of _ _ w.forest).1).1).0 l [] (ltb-true _ _ q) in
        let y : k < length (job_of b).spec.loops = leb-false _ _ (in_order (length (job_of b).spec.loops) (get_or (job_of b).layout.order l []) i k x m (sym z)) in
        omega (arith, y, (few (job_of b) w.limits).loops)
    go false q m z =
        let y : length (get_or (job_of b).layout.order l []) ≡ 0 = ap length (get_or-eq_default (job_of b).layout.order [] {n = l} (ltb-false _ _ q)) in
        absurd (omega (arith, y))

pub root_small : (b : List ℕ) → Passed b → (i n k : ℕ) → n ≡ length (job_of b).spec.roots → i < n → k ≡ get_or (job_of b).spec.roots i 0 → k < 32
unfolding tangled tangled_loops outside
root_small b w i n k c h e =
    let x = (none_of _ _ (none_of _ _ (none_of _ _ w.forest).0).1).0 in
    let y : get_or (job_of b).spec.roots i 0 < length (job_of b).spec.loops = leb-false _ _ (none_in (outside (length (job_of b).spec.loops)) (job_of b).spec.roots x i 0 (rw (← c) h)) in
    omega (arith, e, y, (few (job_of b) w.limits).loops)
