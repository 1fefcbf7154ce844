-- A bound on the count of instances: what one context has at most, multiplied down the loops.
use Prim.Native.Nat.{ℕ, suc, ◌+◌, ◌-◌, ◌*◌, ◌≤◌, ◌<◌, min}
use mathlib.Core.Path.{◌≡◌, ap}
use mathlib.Core.List.{List, [], ◌∷◌}
use native.Mathlib.Nat.{add-mul, mul-le-mul_right}
use native.Mathlib.Omega.{arith}
use lib.ListN.{length, get_or}
use Rattle.format.specs.Job.{Job}
use Rattle.format.specs.Ask as A
use Rattle.format.specs.Orders
use Rattle.plan.specs.Answers.{no_item, item_of}
use Rattle.plan.specs.declared.answers.Item.{Item as Answer}
use Rattle.plan.specs.declared.answers.Item.TheVariants.{Segment, Loop}
use Rattle.spec.specs.declared.ids.LoopId.{LoopId}
use Rattle.nest.specs.Lists.{sum}
use Rattle.nest.specs.Outline.{Outline}
use Rattle.nest.specs.OfJob.{outline_of}
use Rattle.walk.specs.Instances.{Context, outside, instances}
use Rattle.walk.specs.Tour.{enters_in, visits, census}
use Rattle.walk.specs.Census.{too_many}
use Rattle.walk.proofs.Counts.{enters_deep}
use Rattle.census.specs.Entered.{entered_by, entered_below}
use Rattle.census.proofs.EnteredLaws.{entered_with}
use Rattle.census.specs.Bounds.{Width, AtMost}
use Rattle.census.proofs.Counting.{below_from, loops_end, loops_segment, loops_loop, all_entered, roots_from, rooted, roots_end, roots_next}

pub most_deep : (o : Outline) (h l : ℕ) → h ≡ 0 → AtMost o h l 0
most_deep o h l e = record { few = omega arith; most = λ c. let q : enters_in (visits o h l c) ≡ 0 = rw e (enters_deep o l c) in omega (arith, q) }

-- ---- the loops of an order, from place i on

pub record Most (o : Outline) (h l i s : ℕ) : Type 0 where
  pub few : s ≤ too_many
  pub most : (c : Context) → min (suc (entered_below o h l c)) too_many ≤ min (s + below_from o h l c i) too_many

pub most_start : (o : Outline) (h l : ℕ) → Most o h l 0 1
unfolding below_from entered_below
most_start o h l = record { few = omega arith; most = λ c. omega arith }

each_few : {A : Type 0} (f : A → ℕ) (s : ℕ) → ((x : A) → min (f x) too_many ≤ s) → (xs : List A) → min (sum f xs) too_many ≤ length xs * s
each_few f s h [] = omega arith
each_few f s h (x ∷ xs) = omega (arith, h x, each_few f s h xs, add-mul 1 (length xs) s)

module _ (j : Job) (h l i s : ℕ) (m : Most (outline_of j) h l i s) (count : ℕ) (e : count ≡ length (Orders.order_of j l)) where
  module _ (x : Answer) (z : i < count) (a : item_of x ≡ get_or (Orders.order_of j l) i no_item) where
    pub most_segment : (k : ℕ) → x ≡ Segment k → Most (outline_of j) h l (i + 1) s
    unfolding below_from
    most_segment k q = record {
      few = m.few;
      most = λ c. let same : below_from (outline_of j) h l c i ≡ below_from (outline_of j) h l c (i + 1) = ap (sum (entered_by (outline_of j) h c)) (loops_segment j l i count e x z a k q) in omega (arith, m.most c, same);
    }

    pub most_loop : (k : LoopId) (w r : ℕ) → x ≡ Loop k → AtMost (outline_of j) h k.0 w → r ≡ min (s + w) too_many → Most (outline_of j) h l (i + 1) r
    unfolding below_from
    most_loop k w r q g f = record {
      few = omega (arith, f);
      most = λ c. let more : below_from (outline_of j) h l c i ≡ entered_by (outline_of j) h c k.0 + below_from (outline_of j) h l c (i + 1) = ap (sum (entered_by (outline_of j) h c)) (loops_loop j l i count e x z a k q) in omega (arith, m.most c, more, g.most c, f);
    }

  one_most : count ≤ i → (c : Context) → min (entered_with (outline_of j) h l c) too_many ≤ s
  unfolding below_from
  one_most z c =
      let q : below_from (outline_of j) h l c i ≡ 0 = ap (sum (entered_by (outline_of j) h c)) (loops_end j l i count e z) in
      omega (arith, m.most c, q, m.few)

pub most_end : (j : Job) (h l i s : ℕ) → Most (outline_of j) (h - 1) l i s → (count : ℕ) → count ≡ length (Orders.order_of j l) → (w r : ℕ) → count ≤ i → (h ≡ 0 → ⊥)
    → Width (outline_of j) l w → r ≡ min (w * s) too_many → AtMost (outline_of j) h l r
most_end j h l i s m count e w r z d g f = record {
  few = omega (arith, f);
  most = λ c.
      let all = all_entered (outline_of j) h l c d in
      let many = each_few (entered_with (outline_of j) (h - 1) l) s (one_most j (h - 1) l i s m count e z) (instances (outline_of j) h l c) in
      let wide = mul-le-mul_right s (g.most h c) in
      omega (arith, all, many, wide, f);
}

-- ---- the roots, from place i on

pub record RootsMost (j : Job) (i n : ℕ) : Type 0 where
  pub few : n ≤ too_many
  pub most : min (census (outline_of j)) too_many ≤ min (n + roots_from (outline_of j) i) too_many

pub roots_most : (j : Job) → RootsMost j 0 0
roots_most j = let q = (rooted j).rest in record { few = omega arith; most = omega (arith, q) }

module _ (j : Job) (i n : ℕ) (s : RootsMost j i n) (count : ℕ) (e : count ≡ length j.spec.roots) where
  pub roots_most_next : (l h m r : ℕ) → i < count → l ≡ get_or j.spec.roots i 0 → h ≡ length j.spec.loops → AtMost (outline_of j) h l m → r ≡ min (n + m) too_many → RootsMost j (i + 1) r
  roots_most_next l h m r z a b g f =
      let q = roots_next j i count e l h z a b in
      record { few = omega (arith, f); most = omega (arith, q, s.most, g.most outside, f) }

  pub roots_most_end : count ≤ i → min (census (outline_of j)) too_many ≤ n
  roots_most_end z = let q = roots_end j i count e z in omega (arith, q, s.most, s.few)
