-- What stands above what: the loops above a loop are a chain without ring.
use Prim.Native.Nat.{ℕ, zero, suc, ◌<◌}
use mathlib.Core.Path.{◌≡◌, refl, sym, ap, ◌∙◌, subst}
use mathlib.Core.Logic.{◌⊎◌, inl, inr}
use mathlib.Core.Bool.{Bool, true, false, false≢true, ◌&&◌}
use native.Mathlib.Omega.{arith}
use native.Mathlib.Decide.{dec_lt}
use Rattle.std.specs.Prelude.{Option, None, Some}
use Rattle.std.proofs.lemmas.Option.{same_Some, none-some}
use lib.ListN.{length, get_or-eq_default}
use lib.Dec.{ltb}
use borrow.Author.Tests.{eq-eqb, eqb-true, lt-ltb}
use Rattle.nest.specs.Lists.{once, times, is}
use Rattle.nest.specs.Outline.{Outline, Kind, rows, absent, loop_of, plan_of, parent_of, kind_of, order_of, no_loop, no_plan}
use Rattle.nest.specs.Outline.{item_loops}
use Rattle.walk.specs.Complete.{Above, next, higher, climbs, is_root, Tree, Complete}

pub same_some : {x : Option ℕ} {a b : ℕ} → x ≡ Some a → x ≡ Some b → a ≡ b
same_some {x} {a} {b} p q = same_Some a b (sym p ∙ q)

pub none_or_some : {x : Option ℕ} {a : ℕ} → x ≡ None → x ≡ Some a → ⊥
none_or_some {x} {a} p q = none-some a (sym p ∙ q)

pub is_some : (x : Option ℕ) (k : ℕ) → is x k ≡ true → x ≡ Some k
is_some None k e = absurd (false≢true e)
is_some (Some n) k e = ap {B = Option ℕ} Some (sym (eqb-true k n e))

pub once_true : (b : Bool) → 0 < once b → b ≡ true
once_true true h = refl
once_true false h = absurd (omega arith)

pub in_range : (j : Outline) (l p : ℕ) → parent_of j l ≡ Some p → l < length j.loops
unfolding parent_of loop_of
in_range j l p e = go (dec_lt l (length j.loops))
  where
    go : Dec (l < length j.loops) → l < length j.loops
    go (yes h) = h
    go (no h) = absurd (none_or_some (ap (λ d. d.parent) (get_or-eq_default j.loops no_loop {n = l} (omega arith))) e)

pub planned_range : (j : Outline) (l t : ℕ) → kind_of j l ≡ rows t → l < length j.plan
unfolding kind_of plan_of
planned_range j l t e = go (dec_lt l (length j.plan))
  where
    never : {k : Kind} → k ≡ absent → k ≡ rows t → ⊥
    never p q = let z : ◌≡◌ {A = ℕ} 0 1 = cc in omega arith

    go : Dec (l < length j.plan) → l < length j.plan
    go (yes h) = h
    go (no h) = absurd (never (ap (λ d. d.instances) (get_or-eq_default j.plan no_plan {n = l} (omega arith))) e)

pub rows_same : {k : Kind} {t u : ℕ} → k ≡ rows t → k ≡ rows u → t ≡ u
rows_same p q = cc

module _ {j : Outline} where
  pub above_trans : {m k l : ℕ} → Above j m k → Above j k l → Above j m l
  above_trans a (next e) = higher e a
  above_trans a (higher e b) = higher e (above_trans a b)

  -- at a parent: m is it, or stands above it
  pub above_step : {m l p : ℕ} → Above j m l → parent_of j l ≡ Some p → (m ≡ p) ⊎ Above j m p
  above_step (next e) q = inl (same_some e q)
  above_step {m} (higher {p = r} e a) q = inr (subst (λ i. Above j m i) (same_some e q) a)

  pub above_has_parent : {m l : ℕ} → Above j m l → (p : ℕ) × (parent_of j l ≡ Some p)
  above_has_parent (next {m = m} e) = (m, e)
  above_has_parent (higher {p = p} e a) = (p, e)

  -- of two loops above a third one is above the other
  pub above_either : {a b x : ℕ} → Above j a x → Above j b x → (a ≡ b) ⊎ (Above j a b ⊎ Above j b a)
  above_either (next e) b = turn (above_step b e)
    where
      turn : {a b : ℕ} → (b ≡ a) ⊎ Above j b a → (a ≡ b) ⊎ (Above j a b ⊎ Above j b a)
      turn (inl q) = inl (sym q)
      turn (inr q) = inr (inr q)
  above_either {a} {b} (higher {p = p} e q) c = turn (above_step c e) (above_either q)
    where
      turn : (b ≡ p) ⊎ Above j b p → (Above j b p → (a ≡ b) ⊎ (Above j a b ⊎ Above j b a)) → (a ≡ b) ⊎ (Above j a b ⊎ Above j b a)
      turn (inl z) more = inr (inl (subst (λ i. Above j a i) (sym z) q))
      turn (inr z) more = more z

  ring : (h l : ℕ) → climbs j h l ≡ true → Above j l l → ⊥
  unfolding climbs
  ring zero l c a = false≢true c
  ring (suc h) l c a = go (above_has_parent a) (ring h)
    where
      go : (p : ℕ) × (parent_of j l ≡ Some p) → ((p : ℕ) → climbs j h p ≡ true → Above j p p → ⊥) → ⊥
      go (p, e) more = more p (rw e at c) (again (above_step a e))
        where
          again : (l ≡ p) ⊎ Above j l p → Above j p p
          again (inl z) = subst (λ i. Above j i i) z a
          again (inr z) = above_trans (next e) z

  pub no_self : Tree j → {l : ℕ} → Above j l l → ⊥
  no_self tree {l} a = ring (length j.loops) l (tree.no_ring l (in_range j l (above_has_parent a).0 (above_has_parent a).1)) a

pub parent_range : (j : Outline) (T : Tree j) (k l : ℕ) → parent_of j k ≡ Some l → l < length j.loops
unfolding loop_of
parent_range j T k l e = go (dec_lt l (length j.loops))
  where
    there : times k (loop_of j l).children ≡ 1
    there = T.children l k ∙ ap once (ap (λ x. is x l) e ∙ eq-eqb l l refl)

    go : Dec (l < length j.loops) → l < length j.loops
    go (yes h) = h
    go (no h) = absurd (omega (arith, there, ap (λ d. times k d.children) (get_or-eq_default j.loops no_loop {n = l} (omega arith))))

pub above_child : {j : Outline} {m l : ℕ} → Above j m l → (k : ℕ) × (parent_of j k ≡ Some m)
above_child (next {l = l} e) = (l, e)
above_child (higher e a) = above_child a

module _ {j : Outline} (C : Complete j) where
  -- the loops in an order are the children
  pub order_child : (l k : ℕ) → 0 < times k (item_loops (order_of j l)) → parent_of j k ≡ Some l
  order_child l k h = is_some (parent_of j k) l (once_true (is (parent_of j k) l) (omega (arith, C.order_loops l k, C.tree.children l k)))

  pub child_once : (l k : ℕ) → parent_of j k ≡ Some l → times k (item_loops (order_of j l)) ≡ 1
  child_once l k e = C.order_loops l k ∙ C.tree.children l k ∙ ap once (ap (λ x. is x l) e ∙ eq-eqb l l refl)

  pub root_parent : (l : ℕ) → 0 < times l j.roots → parent_of j l ≡ None
  unfolding is_root
  root_parent l h = go (parent_of j l) refl
    where
      off : (b : Bool) → b && false ≡ true → ⊥
      off true e = false≢true e
      off false e = false≢true e

      passed : is_root j l ≡ true
      passed = once_true (is_root j l) (omega (arith, C.tree.roots l))

      go : (x : Option ℕ) → parent_of j l ≡ x → x ≡ None
      go None e = refl
      go (Some p) e = absurd (off (ltb l (length j.loops)) (rw e at passed))

  pub root_once : (l : ℕ) → l < length j.loops → parent_of j l ≡ None → times l j.roots ≡ 1
  unfolding is_root
  root_once l h e = let top : is_root j l ≡ true = rw (lt-ltb l (length j.loops) h, e) in C.tree.roots l ∙ ap once top
