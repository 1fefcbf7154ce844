-- The count of instances, one law for each way that code takes.
use Prim.Native.Nat.{ℕ, zero, suc, ◌+◌, ◌-◌, ◌≤◌, ◌<◌, min}
use mathlib.Core.Path.{◌≡◌, refl, sym, ap, ◌∙◌, subst}
use mathlib.Core.Bool.{Bool, true, false, false≢true}
use mathlib.Core.List.{List, [], ◌∷◌}
use native.Mathlib.Numerals.{sub-one}
use native.Mathlib.Omega.{arith}
use lib.ListN.{length, drop, get_or, drop_of_length-le}
use Rattle.format.specs.Job.{Job}
use Rattle.format.specs.Ask as A
use Rattle.format.specs.Orders
use Rattle.plan.specs.Answers.{no_item, item_of}
use Rattle.plan.specs.declared.answers.Item.{Item as Answer}
use Rattle.plan.specs.declared.answers.Item.TheVariants.{Segment, Loop}
use Rattle.spec.specs.declared.ids.LoopId.{LoopId}
use Rattle.nest.specs.Lists.{sum}
use Rattle.nest.specs.Outline.{Outline, segment, item_loops, order_of}
use Rattle.nest.specs.OfJob.{outline_of, item_in}
use Rattle.nest.proofs.Bridge.{order_length, order_item, loop_count_is, roots_is}
use Rattle.nest.proofs.Scan.{drop_next, sum_at, sum_past}
use Rattle.walk.specs.declared.Context.{Context as Kept}
use Rattle.walk.specs.Instances.{Context, outside, instances}
use Rattle.walk.specs.Contexts.{context_by, kept_outside}
use Rattle.walk.specs.Nested.{Sound}
use Rattle.walk.specs.Tour.{enters_in, visits, census}
use Rattle.walk.specs.Census.{too_many, counted}
use Rattle.walk.proofs.Counts.{enters_deep, enters_visits, census_roots}
use Rattle.walk.proofs.ContextLaws.{stands_outside}
use Rattle.walk.proofs.NestedLaws.{sound_outside}
use Rattle.instances.specs.declared.Cursor.{Cursor}
use Rattle.instances.specs.declared.Next.{Next}
use Rattle.std.specs.Prelude.{Option, Some, None}
use Rattle.instances.specs.Cursor.{coming, Going, context_in, behind, Came}
use Rattle.instances.proofs.Cursors.{came_in}
use Rattle.census.specs.Entered.{entered_by, entered_below}
use Rattle.census.proofs.EnteredLaws.{entered_with}

-- ---- the loops of an order, from place i on

unfoldable pub below_from : Outline → ℕ → ℕ → Context → ℕ → ℕ
below_from o h l c i = sum (entered_by o h c) (item_loops (drop i (order_of o l)))

pub record Below (o : Outline) (h l : ℕ) (c : Context) (n i m : ℕ) (leaf : Bool) : Type 0 where
  pub rest : min (n + entered_below o h l c) too_many ≡ min (m + below_from o h l c i) too_many
  pub few : m ≤ too_many
  pub alone : leaf ≡ true → item_loops (order_of o l) ≡ item_loops (drop i (order_of o l))

pub below_start : (o : Outline) (h l : ℕ) (c : Context) (n : ℕ) → n ≤ too_many → Below o h l c n 0 n true
unfolding below_from entered_below
below_start o h l c n f = record { rest = refl; few = f; alone = λ z. refl }

module _ (j : Job) (l i count : ℕ) (e : count ≡ length (Orders.order_of j l)) where
  items : count ≡ length (order_of (outline_of j) l)
  items = e ∙ sym (order_length j l)

  pub loops_end : count ≤ i → item_loops (drop i (order_of (outline_of j) l)) ≡ []
  loops_end z = let past : length (order_of (outline_of j) l) ≤ i = omega (arith, items) in ap item_loops (drop_of_length-le (order_of (outline_of j) l) past)

  module _ (x : Answer) (z : i < count) (a : item_of x ≡ get_or (Orders.order_of j l) i no_item) where
    item_is : get_or (order_of (outline_of j) l) i (segment 0) ≡ item_in (item_of x)
    item_is = order_item j l i ∙ ap item_in (sym a)

    here : drop i (order_of (outline_of j) l) ≡ item_in (item_of x) ∷ drop (i + 1) (order_of (outline_of j) l)
    here = drop_next (order_of (outline_of j) l) i (segment 0) (omega (arith, items)) ∙ ap (λ v. v ∷ drop (i + 1) (order_of (outline_of j) l)) item_is

    pub loops_segment : (k : ℕ) → x ≡ Segment k → item_loops (drop i (order_of (outline_of j) l)) ≡ item_loops (drop (i + 1) (order_of (outline_of j) l))
    loops_segment k q = ap item_loops (here ∙ ap (λ v. item_in (item_of v) ∷ drop (i + 1) (order_of (outline_of j) l)) q)

    pub loops_loop : (k : LoopId) → x ≡ Loop k → item_loops (drop i (order_of (outline_of j) l)) ≡ k.0 ∷ item_loops (drop (i + 1) (order_of (outline_of j) l))
    loops_loop k q = ap item_loops (here ∙ ap (λ v. item_in (item_of v) ∷ drop (i + 1) (order_of (outline_of j) l)) q)

module _ (j : Job) (h l : ℕ) (c : Context) (n i m : ℕ) (leaf : Bool) (s : Below (outline_of j) h l c n i m leaf) (count : ℕ) (e : count ≡ length (Orders.order_of j l)) where
  abbrev o : Outline
  o = outline_of j

  pub below_end : count ≤ i → (m ≡ min (n + entered_below o h l c) too_many) × (leaf ≡ true → item_loops (order_of o l) ≡ [])
  unfolding below_from
  below_end z =
      let none_left = loops_end j l i count e z in
      let q : below_from o h l c i ≡ 0 = ap (sum (entered_by o h c)) none_left in
      (sym (s.rest ∙ omega (arith, q, s.few)), λ y. s.alone y ∙ none_left)

  module _ (x : Answer) (z : i < count) (a : item_of x ≡ get_or (Orders.order_of j l) i no_item) where
    pub below_segment : (k : ℕ) → x ≡ Segment k → Below o h l c n (i + 1) m leaf
    unfolding below_from
    below_segment k q =
        let same = loops_segment j l i count e x z a k q in
        record { rest = s.rest ∙ ap (λ xs. min (m + sum (entered_by o h c) xs) too_many) same; few = s.few; alone = λ y. s.alone y ∙ same }

    pub below_loop : (k : LoopId) (r : ℕ) → x ≡ Loop k → r ≡ min (m + enters_in (visits o h k.0 c)) too_many → Below o h l c n (i + 1) r false
    unfolding below_from
    below_loop k r q g =
        let more : below_from o h l c i ≡ entered_by o h c k.0 + below_from o h l c (i + 1) = ap (sum (entered_by o h c)) (loops_loop j l i count e x z a k q) in
        record { rest = s.rest ∙ omega (arith, more, g, s.few); few = omega (arith, g); alone = λ y. absurd (false≢true y) }

-- ---- the instances of a loop: `from` gave all of them, and `cur` gives those that are left

abbrev pub entered_at : Outline → List ℕ → ℕ → ℕ → Cursor → ℕ
entered_at o nest h l cur = sum (entered_with o (h - 1) l) (coming o nest cur)

pub record Entering (o : Outline) (nest : List ℕ) (h l n : ℕ) (from : Cursor) (m : ℕ) (leaf : Bool) (cur : Cursor) : Type 0 where
  pub rest : min (n + entered_at o nest h l from) too_many ≡ min (m + entered_at o nest h l cur) too_many
  pub few : m ≤ too_many
  pub alone : leaf ≡ true → item_loops (order_of o l) ≡ []
  pub going : Going o nest cur

pub entering : (o : Outline) (nest : List ℕ) (h l n : ℕ) (cur : Cursor) → n ≤ too_many → Going o nest cur → Entering o nest h l n cur n false cur
entering o nest h l n cur f g = record { rest = refl; few = f; alone = λ z. absurd (false≢true z); going = g }

pub entered_deep : (o : Outline) (h l : ℕ) (c : Context) (n : ℕ) → n ≤ too_many → h ≡ 0 → n ≡ min (n + enters_in (visits o h l c)) too_many
entered_deep o h l c n f e = let q : enters_in (visits o h l c) ≡ 0 = rw e (enters_deep o l c) in omega (arith, q)

pub all_entered : (o : Outline) (h l : ℕ) (c : Context) → (h ≡ 0 → ⊥) → enters_in (visits o h l c) ≡ sum (entered_with o (h - 1) l) (instances o h l c)
unfolding entered_below
all_entered o zero l c d = absurd (d refl)
all_entered o (suc h) l c d = rw sub-one (enters_visits o h l c)

module _ (o : Outline) (nest : List ℕ) (h l n : ℕ) (from : Cursor) (m : ℕ) (leaf : Bool) (cur : Cursor) (s : Entering o nest h l n from m leaf cur) where
  -- nothing is left, or nothing that counts
  module _ (c : Context) (deep : h ≡ 0 → ⊥) (whole : coming o nest from ≡ instances o h l c) where
    counted_all : entered_at o nest h l from ≡ enters_in (visits o h l c)
    counted_all = ap (sum (entered_with o (h - 1) l)) whole ∙ sym (all_entered o h l c deep)

    pub entered_past : too_many ≤ m → m ≡ min (n + enters_in (visits o h l c)) too_many
    entered_past z = let q = counted_all in let r = s.rest in omega (arith, q, r, s.few)

    pub entered_over : (r : Option Next) → Came o nest cur r → r ≡ None → m ≡ min (n + enters_in (visits o h l c)) too_many
    entered_over r came z =
        let over : entered_at o nest h l cur ≡ 0 = ap (sum (entered_with o (h - 1) l)) (came.ended z) in
        let q = counted_all in
        let w = s.rest in
        omega (arith, over, q, w, s.few)

  module _ (x : Option Next) (came : Came o nest cur x) (r : Next) (z : x ≡ Some r) where
    pub entered_next : (d : Kept) (w k : ℕ) (y : Bool) → d ≡ context_in cur r → w ≡ counted m → (k ≡ min (w + entered_below o (h - 1) l (context_by d)) too_many) × (y ≡ true → item_loops (order_of o l) ≡ [])
        → Entering o nest h l n from k y (behind cur r)
    entered_next d w k y f e g =
        let q : entered_at o nest h l cur ≡ suc (entered_below o (h - 1) l (context_by d)) + entered_at o nest h l (behind cur r) = ap (sum (entered_with o (h - 1) l)) (came_in came z f) in
        record { rest = s.rest ∙ omega (arith, q, e, g.0, s.few); few = omega (arith, g.0); alone = g.1; going = (came.given r z).still }

    pub entered_leaf : (w : ℕ) → w ≡ counted m → leaf ≡ true → Entering o nest h l n from w leaf (behind cur r)
    unfolding entered_below
    entered_leaf w e y =
        let none_below : entered_below o (h - 1) l (context_by (context_in cur r)) ≡ 0 = ap (sum (entered_by o (h - 1) (context_by (context_in cur r)))) (s.alone y) in
        entered_next (context_in cur r) w w leaf refl e (omega (arith, none_below, e), s.alone)

-- ---- the roots, from place i on

unfoldable pub roots_from : Outline → ℕ → ℕ
roots_from o i = sum (entered_by o (length o.loops) outside) (drop i o.roots)

pub record Rooted (j : Job) (i n : ℕ) : Type 0 where
  pub rest : min (census (outline_of j)) too_many ≡ min (n + roots_from (outline_of j) i) too_many
  pub few : n ≤ too_many

pub rooted : (j : Job) → Rooted j 0 0
unfolding roots_from
rooted j = let q : census (outline_of j) ≡ roots_from (outline_of j) 0 = census_roots (outline_of j) in record { rest = omega (arith, q); few = omega arith }

pub outside_is : (c : Kept) → c ≡ kept_outside → context_by c ≡ outside
outside_is c e = ap context_by e ∙ stands_outside

pub outside_sound : (o : Outline) (c : Kept) → c ≡ kept_outside → Sound o (context_by c)
outside_sound o c e = subst (Sound o) (sym (outside_is c e)) (sound_outside o)

module _ (j : Job) (i count : ℕ) (e : count ≡ length j.spec.roots) where
  roots_length : count ≡ length (outline_of j).roots
  roots_length = e ∙ sym (ap length (roots_is j))

  pub roots_end : count ≤ i → roots_from (outline_of j) i ≡ 0
  unfolding roots_from
  roots_end z = sum_past _ (outline_of j).roots i (omega (arith, roots_length))

  pub roots_next : (l h : ℕ) → i < count → l ≡ get_or j.spec.roots i 0 → h ≡ length j.spec.loops → roots_from (outline_of j) i ≡ enters_in (visits (outline_of j) h l outside) + roots_from (outline_of j) (i + 1)
  unfolding roots_from
  roots_next l h z a b =
      let its : get_or (outline_of j).roots i 0 ≡ l = ap (λ xs. get_or xs i 0) (roots_is j) ∙ sym a in
      let high : length (outline_of j).loops ≡ h = loop_count_is j ∙ sym b in
      let one : entered_by (outline_of j) (length (outline_of j).loops) outside (get_or (outline_of j).roots i 0) ≡ enters_in (visits (outline_of j) h l outside) = rw (its, high) refl in
      sum_at _ (outline_of j).roots i 0 (omega (arith, roots_length)) ∙ ap (λ v. v + roots_from (outline_of j) (i + 1)) one

module _ (j : Job) (i n : ℕ) (s : Rooted j i n) (count : ℕ) (e : count ≡ length j.spec.roots) where
  pub rooted_end : count ≤ i → n ≡ min (census (outline_of j)) too_many
  rooted_end z = let q = roots_end j i count e z in sym (s.rest ∙ omega (arith, q, s.few))

  pub rooted_next : (l h r : ℕ) (c : Kept) → i < count → l ≡ get_or j.spec.roots i 0 → h ≡ length j.spec.loops → c ≡ kept_outside
      → r ≡ min (n + enters_in (visits (outline_of j) h l (context_by c))) too_many → Rooted j (i + 1) r
  rooted_next l h r c z a b k g =
      let one : enters_in (visits (outline_of j) h l (context_by c)) ≡ enters_in (visits (outline_of j) h l outside) = ap (λ d. enters_in (visits (outline_of j) h l d)) (outside_is c k) in
      let q = roots_next j i count e l h z a b in
      record { rest = s.rest ∙ omega (arith, q, one, g, s.few); few = omega (arith, g) }
