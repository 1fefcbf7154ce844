-- How many stops of one row there are below a loop: none off the way to its loop, and on the way as many as the rows to come.
use Prim.Native.Nat.{ℕ, zero, suc, ◌+◌, ◌-◌, ◌≤◌, ◌<◌}
use mathlib.Core.Path.{◌≡◌, refl, sym, ap, ◌∙◌, subst}
use mathlib.Core.Logic.{◌⊎◌, inl, inr}
use mathlib.Core.Bool.{Bool, true, false, cond, not, ◌&&◌, true≢false}
use mathlib.Core.List.{List, [], ◌∷◌, ◌++◌}
use native.Mathlib.Omega.{arith}
use Rattle.std.specs.Prelude.{Option, None, Some}
use lib.ListN.{length, take, drop}
use lib.Dec.{eqb}
use borrow.Author.Tests.{eq-eqb, ne_eqb, eqb-true}
use Rattle.nest.specs.Lists.{once, each, some_of, is_empty_list, on, from, sum, times, is, part}
use Rattle.nest.specs.Outline.{Outline, rows, groups, envelope, implied, Item, segment, loop, loop_of, parent_of, kind_of, order_of, table_parent, row_count, plain}
use Rattle.nest.specs.Nest.{referred, held}
use Rattle.walk.specs.Instances.{Context, Run, Piece, in_row, in_piece, pieces_of, at, held_in, rows_in, cut_to, offset, instances}
use Rattle.walk.specs.Tour.{Step, closer, opened, segments_in, stop_at, own_row, segment_steps, item_steps, body_steps, close_steps, children, instance_steps, visits}
use Rattle.nest.specs.Outline.{item_loops, item_segments}
use Rattle.walk.specs.Complete.{Above, next, Complete}
use Rattle.walk.specs.Stops.{is_stop, stops_of}
use Rattle.nest.proofs.Sums.{sum_append, sum_each, sum_map, sum_same, sum_zero, sum_none, sum_one, times_within}
use Rattle.walk.proofs.TourLaws.{inst_rows, inst_groups, inst_envelope, inst_implied, some_child}
use Rattle.walk.proofs.Pieces.{part_of_part, pieces_all}
use Rattle.walk.proofs.Paths.{above_trans, above_step, above_either, no_self, order_child, child_once}

-- ---- an instance: what it stops at itself, and what its child loops stop at

unfoldable pub own : Outline → ℕ → ℕ → ℕ → Context → ℕ
own j t r l c = stops_of t r (stop_at l (own_row (kind_of j l) c)) + sum (λ i. stops_of t r (segment_steps j l c i)) (item_segments (order_of j l))

items_split : (j : Outline) (t r l : ℕ) (c : Context) (below : ℕ → Context → List Step) (its : List Item)
    → stops_of t r (each (item_steps below j l c) its) ≡ sum (λ i. stops_of t r (segment_steps j l c i)) (item_segments its) + sum (λ k. stops_of t r (below k c)) (item_loops its)
items_split j t r l c below [] = refl
items_split j t r l c below (segment i ∷ more) =
    omega (arith, sum_append (is_stop t r) (segment_steps j l c i) (each (item_steps below j l c) more), items_split j t r l c below more)
items_split j t r l c below (loop k ∷ more) =
    omega (arith, sum_append (is_stop t r) (below k c) (each (item_steps below j l c) more), items_split j t r l c below more)

close_stops : (j : Outline) (t r l n : ℕ) (body : List Step) → stops_of t r (close_steps j l n body) ≡ 0
unfolding close_steps
close_stops j t r l n body = go ((loop_of j l).ends && (loop_of j l).controlled)
  where
    go : (b : Bool) → stops_of t r (cond b (closer l (opened j l) n (suc (segments_in body)) ∷ []) []) ≡ 0
    go true = refl
    go false = refl

pub instance_split : (j : Outline) (t r l : ℕ) (c : Context) (inner : ℕ → Context → List Context) (below : ℕ → Context → List Step)
    → stops_of t r (instance_steps inner below j l c) ≡ own j t r l c + sum (λ k. stops_of t r (below k c)) (item_loops (order_of j l))
unfolding own instance_steps body_steps
instance_split j t r l c inner below =
    let mine : List Step = stop_at l (own_row (kind_of j l) c) in
    let items : List Step = each (item_steps below j l c) (order_of j l) in
    let closing : List Step = close_steps j l (children inner j l c) (mine ++ items) in
    omega (
      arith,
      sum_append (is_stop t r) (mine ++ items) closing,
      close_stops j t r l (children inner j l c) (mine ++ items),
      sum_append (is_stop t r) mine items,
      items_split j t r l c below (order_of j l),
    )

pub visits_sum : (j : Outline) (t r h l : ℕ) (c : Context)
    → stops_of t r (visits j (suc h) l c) ≡ sum (λ d. own j t r l d + sum (λ k. stops_of t r (visits j h k d)) (item_loops (order_of j l))) (instances j (suc h) l c)
unfolding visits
visits_sum j t r h l c =
    sum_each (is_stop t r) (instance_steps (instances j h) (visits j h) j l) (instances j (suc h) l c)
    ∙ sum_same _ _ (instances j (suc h) l c) (λ d. instance_split j t r l d (instances j h) (visits j h))

-- ---- contexts

-- how often a row that may be there stands in a list
abbrev pub stands : Option ℕ → List ℕ → ℕ
stands x xs = on x (λ o. times o xs) 0

rows_below : (j : Outline) (w v : ℕ) (c : Context) (p : ℕ) → plain j w ≡ true → table_parent j w ≡ Some v → rows_in j w (in_row v c p) ≡ held j w v p
unfolding rows_in held_in
rows_below j w v c p e q = rw (e, q) (rw (eq-eqb v v refl))

pub held_same : (j : Outline) (w : ℕ) (c : Context) (p : Piece) → (table_parent j w ≡ Some w → ⊥) → held_in j w (at w p.head c.row) ≡ held_in j w c.row
unfolding held_in
held_same j w c p d = go (table_parent j w) refl
  where
    go : (x : Option ℕ) → table_parent j w ≡ x
        → on x (λ u. on (at w p.head c.row u) (held j w u) []) (from 0 (row_count j w)) ≡ on x (λ u. on (c.row u) (held j w u) []) (from 0 (row_count j w))
    go None e = refl
    go (Some q) e = rw (ne_eqb q w (λ z. d (e ∙ ap {B = Option ℕ} Some z)))

rows_piece : (j : Outline) (w : ℕ) (c : Context) (p : Piece) → plain j w ≡ true → (table_parent j w ≡ Some w → ⊥) → p.start ≤ p.end → p.end ≤ length (rows_in j w c)
    → rows_in j w (in_piece w c p) ≡ take (p.end - p.start) (drop p.start (rows_in j w c))
unfolding rows_in
rows_piece j w c p e d h k = rw (e, held_same j w c p d, eq-eqb w w refl) (cut c.run refl)
  where
    whole : List ℕ
    whole = held_in j w c.row

    long : p.end ≤ length (cut_to w c.run whole)
    long = rw e at k

    plainly : part (0 + p.start) (0 + p.end) whole ≡ take (p.end - p.start) (drop p.start whole)
    plainly =
        let a : 0 + p.end ≡ p.end = omega arith in
        let b : 0 + p.start ≡ p.start = omega arith in
        rw (a, b)

    cut : (x : Option Run) → c.run ≡ x → part (offset w x + p.start) (offset w x + p.end) whole ≡ take (p.end - p.start) (drop p.start (cut_to w x whole))
    cut None q = plainly
    cut (Some run) q = which (eqb run.table w) refl (rw q at long)
      where
        which : (b : Bool) → eqb run.table w ≡ b → p.end ≤ length (cond (eqb run.table w) (part run.start run.end whole) whole)
            → part (cond (eqb run.table w) run.start 0 + p.start) (cond (eqb run.table w) run.start 0 + p.end) whole
            ≡ take (p.end - p.start) (drop p.start (cond (eqb run.table w) (part run.start run.end whole) whole))
        which true z f = rw z (part_of_part whole run.start run.end p.start p.end h (rw z at f))
        which false z f = rw z plainly

-- ---- no instances

none_of : (p : ℕ → Bool) (k : ℕ) (xs : List ℕ) → some_of p xs ≡ false → 0 < times k xs → p k ≡ false
none_of p k [] e h = absurd (omega arith)
none_of p k (x ∷ xs) e h = go (p x) refl (eqb x k) refl (none_of p k xs)
  where
    go : (b : Bool) → p x ≡ b → (s : Bool) → eqb x k ≡ s → (some_of p xs ≡ false → 0 < times k xs → p k ≡ false) → p k ≡ false
    go true q s z more = absurd (true≢false (rw q at e))
    go false q true z more = ap p (sym (eqb-true x k z)) ∙ q
    go false q false z more = more (rw q at e) (omega (arith, h, ap once z))

no_visits : (j : Outline) (t r h l : ℕ) (c : Context) → not (is_empty_list (instances j h l c)) ≡ false → stops_of t r (visits j h l c) ≡ 0
unfolding visits
no_visits j t r zero l c e = refl
no_visits j t r (suc h) l c e = go (instances j (suc h) l c) e
  where
    go : (cs : List Context) → not (is_empty_list cs) ≡ false → stops_of t r (each (instance_steps (instances j h) (visits j h) j l) cs) ≡ 0
    go [] q = refl
    go (d ∷ ds) q = absurd (true≢false q)

-- ---- the way to a loop

-- One row (t, r) stops where loop a is entered at row o of its table u, and nowhere else.
pub record StopsAt (j : Outline) (t r a u o : ℕ) : Type 0 where
  pub is_rows : kind_of j a ≡ rows u
  pub elsewhere : (l : ℕ) (c : Context) → (l ≡ a → ⊥) → own j t r l c ≡ 0
  pub there : (c : Context) (p : ℕ) → own j t r a (in_row u c p) ≡ once (eqb p o)

abbrev pub OnWay : Outline → ℕ → ℕ → Type 0
OnWay j a l = (l ≡ a) ⊎ Above j l a

-- from the level n on: below loop l, the stops are as many as row x stands in the rows of table w that are to come
abbrev pub Counted : Outline → ℕ → ℕ → ℕ → ℕ → Option ℕ → ℕ → Type 0
Counted j t r l w x n = (h : ℕ) → n ≤ h → (c : Context) → stops_of t r (visits j h l c) ≡ stands x (rows_in j w c)

module _ (j : Outline) (C : Complete j) where
  siblings : {k m l : ℕ} → parent_of j k ≡ Some l → parent_of j m ≡ Some l → Above j m k → ⊥
  siblings {k} {m} {l} e f a = go (above_step a e)
    where
      go : (m ≡ l) ⊎ Above j m l → ⊥
      go (inl z) = no_self C.tree (subst (λ i. Above j l i) z (next f))
      go (inr z) = no_self C.tree (above_trans z (next f))

  -- of the children of a loop one is on the way
  way_same : {a k m l : ℕ} → parent_of j k ≡ Some l → parent_of j m ≡ Some l → OnWay j a k → OnWay j a m → m ≡ k
  way_same e f (inl p) (inl q) = q ∙ sym p
  way_same {m = m} e f (inl p) (inr q) = absurd (siblings e f (subst (λ i. Above j m i) (sym p) q))
  way_same {k = k} e f (inr p) (inl q) = absurd (siblings f e (subst (λ i. Above j k i) (sym q) p))
  way_same {k = k} {m = m} e f (inr p) (inr q) = go (above_either q p)
    where
      go : (m ≡ k) ⊎ (Above j m k ⊎ Above j k m) → m ≡ k
      go (inl z) = z
      go (inr (inl z)) = absurd (siblings e f z)
      go (inr (inr z)) = absurd (siblings f e z)

  way_up : {a k l : ℕ} → parent_of j k ≡ Some l → OnWay j a k → Above j l a
  way_up {l = l} e (inl p) = subst (λ i. Above j l i) p (next e)
  way_up e (inr q) = above_trans (next e) q

  module _ (t r a u o : ℕ) (S : StopsAt j t r a u o) where
    -- off the way
    pub off : (h l : ℕ) (c : Context) → (OnWay j a l → ⊥) → stops_of t r (visits j h l c) ≡ 0
    unfolding visits
    off zero l c d = refl
    off (suc h) l c d =
        visits_sum j t r h l c
        ∙ sum_zero _ (instances j (suc h) l c) (λ i. omega (arith, S.elsewhere l i (λ z. d (inl z)), sum_none (λ k. stops_of t r (visits j h k i)) (item_loops (order_of j l)) (λ k q. off h k i (λ w. d (inr (way_up (order_child C l k q) w))))))

    -- where it stops
    pub start : Counted j t r a u (Some o) 1
    start zero q c = absurd (omega arith)
    start (suc h) q c = visits_sum j t r h a c ∙ rw (inst_rows j h a u c S.is_rows) (sum_map _ (in_row u c) (rows_in j u c) ∙ sum_same _ _ (rows_in j u c) one)
      where
        under : (d : Context) → sum (λ k. stops_of t r (visits j h k d)) (item_loops (order_of j a)) ≡ 0
        under d = sum_none _ (item_loops (order_of j a)) (λ k q. off h k d (λ w. no_self C.tree (way_up (order_child C a k q) w)))

        one : (p : ℕ) → own j t r a (in_row u c p) + sum (λ k. stops_of t r (visits j h k (in_row u c p))) (item_loops (order_of j a)) ≡ once (eqb p o)
        one p = omega (arith, S.there c p, under (in_row u c p))

    -- one loop up: each instance has what its child on the way has
    module _ (k l w n : ℕ) (x : Option ℕ) (e : parent_of j k ≡ Some l) (way : OnWay j a k) (below : Counted j t r k w x n) where
      passing : (h : ℕ) → n ≤ h → (c : Context) → stops_of t r (visits j (suc h) l c) ≡ sum (λ d. stands x (rows_in j w d)) (instances j (suc h) l c)
      passing h q c = visits_sum j t r h l c ∙ sum_same _ _ (instances j (suc h) l c) one
        where
          not_a : l ≡ a → ⊥
          not_a z = no_self C.tree (subst (λ i. Above j l i) (sym z) (way_up e way))

          one : (d : Context) → own j t r l d + sum (λ m. stops_of t r (visits j h m d)) (item_loops (order_of j l)) ≡ stands x (rows_in j w d)
          one d =
              omega (
                arith,
                S.elsewhere l d not_a,
                below h q d,
                sum_one (λ m. stops_of t r (visits j h m d)) k (item_loops (order_of j l)) (child_once C l k e)
                    (λ m differ q. off h m d (λ on. differ (way_same e (order_child C l m q) way on))),
              )

      pub by_envelope : kind_of j l ≡ envelope → Counted j t r l w x (suc n)
      by_envelope f zero q c = absurd (omega arith)
      by_envelope f (suc h) q c = passing h (omega arith) c ∙ rw (inst_envelope j h l c f) (omega arith)

      pub by_implied : kind_of j l ≡ implied → Counted j t r l w x (suc n)
      by_implied f zero q c = absurd (omega arith)
      by_implied f (suc h) q c = passing h (omega arith) c ∙ rw (inst_implied j h l c f) (go (some_child j h l c 0) refl)
        where
          child : times k (loop_of j l).children ≡ 1
          child = sym (C.order_loops l k) ∙ child_once C l k e

          go : (b : Bool) → some_child j h l c 0 ≡ b → sum (λ d. stands x (rows_in j w d)) (cond b (c ∷ []) []) ≡ stands x (rows_in j w c)
          go true g = omega arith
          go false g = sym (no_visits j t r h k c (none_of _ k (loop_of j l).children g (omega (arith, child)))) ∙ below h (omega arith) c

      pub by_groups : kind_of j l ≡ groups w → (table_parent j w ≡ Some w → ⊥) → Counted j t r l w x (suc n)
      by_groups f d zero q c = absurd (omega arith)
      by_groups f d (suc h) q c =
          passing h (omega arith) c ∙ rw (inst_groups j h l w c f) (sum_map _ (in_piece w c) (pieces_of (j.same_group l) (rows_in j w c)) ∙ go x)
        where
          go : (y : Option ℕ) → sum (λ p. stands y (rows_in j w (in_piece w c p))) (pieces_of (j.same_group l) (rows_in j w c)) ≡ stands y (rows_in j w c)
          go None = sum_zero _ (pieces_of (j.same_group l) (rows_in j w c)) (λ p. refl)
          go (Some y) =
              pieces_all y (j.same_group l) (rows_in j w c) (λ p. times y (rows_in j w (in_piece w c p)))
              (λ p s z. ap (times y) (rows_piece j w c p (C.groups_plain l w f) d s z))

      -- the row that x hangs on
      abbrev pub up : ℕ → Option ℕ
      up v = on x (λ i. referred j w i v) None

      pub by_rows : (v : ℕ) → kind_of j l ≡ rows v → table_parent j w ≡ Some v → plain j w ≡ true → ((i : ℕ) → x ≡ Some i → i < row_count j w) → Counted j t r l v (up v) (suc n)
      unfolding held
      by_rows v f g p small zero q c = absurd (omega arith)
      by_rows v f g p small (suc h) q c =
          passing h (omega arith) c ∙ rw (inst_rows j h l v c f) (sum_map _ (in_row v c) (rows_in j v c) ∙ sum_same _ _ (rows_in j v c) one ∙ go x small)
        where
          one : (i : ℕ) → stands x (rows_in j w (in_row v c i)) ≡ stands x (held j w v i)
          one i = ap (stands x) (rows_below j w v c i p g)

          last : (y : Option ℕ) → sum (λ i. once (is y i)) (rows_in j v c) ≡ stands y (rows_in j v c)
          last None = sum_zero _ (rows_in j v c) (λ i. refl)
          last (Some y) = refl

          go : (y : Option ℕ) → ((i : ℕ) → y ≡ Some i → i < row_count j w) → sum (λ i. stands y (held j w v i)) (rows_in j v c) ≡ stands (on y (λ i. referred j w i v) None) (rows_in j v c)
          go None s = sum_zero _ (rows_in j v c) (λ i. refl)
          go (Some y) s =
              sum_same _ _ (rows_in j v c) (λ i. times_within (λ m. is (referred j w m v) i) (row_count j w) 0 y (omega arith) (omega (arith, s y refl)))
              ∙ last (referred j w y v)
