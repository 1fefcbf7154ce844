-- How much an instance can write and stop: no more than its order's items allow, with R rows at most in a table and W items at most in an order.
use Prim.Native.Nat.{ℕ, zero, suc, ◌+◌, ◌-◌, ◌*◌, ◌≤◌, max}
use mathlib.Core.Path.{◌≡◌, refl, ◌∙◌}
use mathlib.Core.Bool.{Bool, true, false, cond, ◌&&◌}
use mathlib.Core.List.{List, [], ◌∷◌, ◌++◌}
use native.Mathlib.Nat.{add-mul, mul-le-mul_right}
use native.Mathlib.Omega.{arith}
use Rattle.std.specs.Prelude.{Option, None, Some}
use lib.ListN.{length}
use lib.Dec.{ltb}
use Rattle.nest.specs.Lists.{each, on, sum}
use Rattle.nest.specs.Outline.{Outline, Source, of_envelope, of_row, of_repeat, Item, segment, loop, item_loops, loop_of, kind_of, order_of, segment_of, planned, has_occurrence, row_count}
use Rattle.nest.specs.Nest.{Row, hook, hooked, repeat_rows}
use Rattle.nest.proofs.Sums.{sum_append, sum_each, sum_same, sum_zero}
use Rattle.nest.proofs.Scan.{keep_length}
use Rattle.walk.specs.Instances.{Context, outside, instances}
use Rattle.walk.specs.Tour.{Step, enters, stop, opener, row_segment, chunk, closer, writes, halts, segments_in, enters_in, stops_in, own_row, stop_at, chunks, chunks_of, row_steps, chunk_steps, repeat_steps, due_row, from_source, segment_steps, item_steps, body_steps, opened, children, close_steps, instance_steps, visits, tour_to, tour, census}
use Rattle.walk.proofs.Counts.{row_steps_sum, enters_each, enters_instance}
use Rattle.walk.proofs.Own.{chunks_all}

-- ---- chunks

ones : {A : Type 0} (xs : List A) → sum (λ x. 1) xs ≡ length xs
ones [] = refl
ones (x ∷ xs) = omega (arith, ones xs)

chunks_few : (same : ℕ → ℕ → Bool) (room : ℕ) (rest : List ℕ) (head left : ℕ) (rs : List ℕ) → length (chunks same room head rs left rest) ≤ suc (length rest)
unfolding chunks
chunks_few same room [] head left rs = omega arith
chunks_few same room (r ∷ more) head left rs = go (ltb 0 left && same head r) (chunks_few same room more head (left - 1) (rs ++ (r ∷ []))) (chunks_few same room more r (room - 1) (r ∷ []))
  where
    go : (b : Bool) → length (chunks same room head (rs ++ (r ∷ [])) (left - 1) more) ≤ suc (length more) → length (chunks same room r (r ∷ []) (room - 1) more) ≤ suc (length more)
        → length (cond b (chunks same room head (rs ++ (r ∷ [])) (left - 1) more) (rs ∷ chunks same room r (r ∷ []) (room - 1) more)) ≤ suc (suc (length more))
    go true on apart = omega arith
    go false on apart = omega arith

pub chunks_no_more : (same : ℕ → ℕ → Bool) (room : ℕ) (xs : List ℕ) → length (chunks_of same room xs) ≤ length xs
chunks_no_more same room [] = omega arith
chunks_no_more same room (r ∷ more) = chunks_few same room more r (room - 1) (r ∷ [])

pub repeat_few : (j : Outline) (t l p : ℕ) → length (repeat_rows j t l p) ≤ row_count j t
unfolding repeat_rows
repeat_few j t l p = keep_length (λ r. hooked (hook j t r) l p) 0 (row_count j t)

-- a repeat segment is written once a chunk, and stops once a row
pub repeat_writes : (j : Outline) (l i t p : ℕ) → sum writes (repeat_steps j l i t p) ≡ length (chunks_of (j.same_chunk l i) (max 1 (j.capacity t)) (repeat_rows j t l p))
unfolding repeat_steps
repeat_writes j l i t p =
    let cs : List (List ℕ) = chunks_of (j.same_chunk l i) (max 1 (j.capacity t)) (repeat_rows j t l p) in
    sum_each writes (chunk_steps l i t) cs ∙ sum_same _ (λ x. 1) cs one ∙ ones cs
  where
    one : (rs : List ℕ) → sum writes (chunk_steps l i t rs) ≡ 1
    one rs = omega (arith, sum_append writes (row_steps l i t 0 rs) (chunk l i t rs ∷ []), row_steps_sum writes (λ l i t k r. refl) l i t 0 rs, sum_zero (λ r. writes (stop l t r)) rs (λ r. refl))

pub repeat_halts : (j : Outline) (l i t p : ℕ) → sum halts (repeat_steps j l i t p) ≡ length (repeat_rows j t l p)
unfolding repeat_steps
repeat_halts j l i t p =
    let cs : List (List ℕ) = chunks_of (j.same_chunk l i) (max 1 (j.capacity t)) (repeat_rows j t l p) in
    sum_each halts (chunk_steps l i t) cs ∙ sum_same _ (sum (λ x. 1)) cs one ∙ chunks_all (λ x. 1) (j.same_chunk l i) (max 1 (j.capacity t)) (repeat_rows j t l p) ∙ ones (repeat_rows j t l p)
  where
    one : (rs : List ℕ) → sum halts (chunk_steps l i t rs) ≡ sum (λ x. 1) rs
    one rs = omega (arith, sum_append halts (row_steps l i t 0 rs) (chunk l i t rs ∷ []), row_steps_sum halts (λ l i t k r. refl) l i t 0 rs)

-- ---- what is counted, at most one a step, and none for entering

pub record Counted (j : Outline) (R : ℕ) (f : Step → ℕ) : Type 0 where
  pub entering : (l : ℕ) → f (enters l) ≡ 0
  pub opening : (l : ℕ) → f (opener l) ≤ 1
  pub row : (l i t r : ℕ) → f (row_segment l i t r) ≤ 1
  pub ends : (l t r n m : ℕ) (b : Bool) → f (stop l t r) + f (closer l b n m) ≤ 1
  pub repeats : (l i t p : ℕ) → sum f (repeat_steps j l i t p) ≤ R

module _ (j : Outline) (R W : ℕ) (f : Step → ℕ) (C : Counted j R f) where
  choose : (x : Step) (b : Bool) → f x ≤ 1 → sum f (cond b (x ∷ []) []) ≤ suc R
  choose x true h = omega arith
  choose x false h = omega arith

  segment_bound : (l : ℕ) (c : Context) (i : ℕ) → sum f (segment_steps j l c i) ≤ suc R
  unfolding segment_steps
  segment_bound l c i = go (ltb i (planned j l))
    where
      given : (t : ℕ) (x : Option ℕ) → sum f (on x (λ r. cond (has_occurrence j l i && due_row j l i t r) (row_segment l i t r ∷ []) []) []) ≤ suc R
      given t None = omega arith
      given t (Some r) = choose (row_segment l i t r) (has_occurrence j l i && due_row j l i t r) (C.row l i t r)

      owned : (t : ℕ) (x : Option Row) → sum f (on x (λ p. repeat_steps j l i t p.row) []) ≤ suc R
      owned t None = omega arith
      owned t (Some p) = omega (arith, C.repeats l i t p.row)

      fits : (t : ℕ) (b : Bool) → sum f (cond b (on (own_row (kind_of j l) c) (λ p. repeat_steps j l i t p.row) []) []) ≤ suc R
      fits t true = owned t (own_row (kind_of j l) c)
      fits t false = omega arith

      by_source : (s : Source) → sum f (from_source j l i c s) ≤ suc R
      by_source of_envelope = choose (opener l) (loop_of j l).controlled (C.opening l)
      by_source (of_row t) = given t (c.row t)
      by_source (of_repeat t) = fits t (has_occurrence j l i)

      go : (b : Bool) → sum f (cond b (from_source j l i c (segment_of j l i).source) []) ≤ suc R
      go true = by_source (segment_of j l i).source
      go false = omega arith

  items_bound : (l : ℕ) (c : Context) (below : ℕ → Context → List Step) (its : List Item)
      → sum f (each (item_steps below j l c) its) ≤ length its * suc R + sum (λ k. sum f (below k c)) (item_loops its)
  items_bound l c below [] = omega arith
  items_bound l c below (segment i ∷ more) = omega (arith, sum_append f (segment_steps j l c i) (each (item_steps below j l c) more), segment_bound l c i, items_bound l c below more)
  items_bound l c below (loop k ∷ more) = omega (arith, sum_append f (below k c) (each (item_steps below j l c) more), items_bound l c below more)

  -- what one instance counts at most, its child loops apart
  abbrev K : ℕ
  K = W * suc R + 1

  instance_bound : (l : ℕ) (c : Context) (inner : ℕ → Context → List Context) (below : ℕ → Context → List Step) → length (order_of j l) ≤ W
      → sum f (instance_steps inner below j l c) ≤ K + sum (λ k. sum f (below k c)) (item_loops (order_of j l))
  unfolding instance_steps body_steps close_steps
  instance_bound l c inner below h =
      let mine : List Step = stop_at l (own_row (kind_of j l) c) in
      let items : List Step = each (item_steps below j l c) (order_of j l) in
      let last : Step = closer l (opened j l) (children inner j l c) (suc (segments_in (mine ++ items))) in
      let b : Bool = (loop_of j l).ends && (loop_of j l).controlled in
      omega (
        arith,
        sum_append f (mine ++ items) (cond b (last ∷ []) []),
        sum_append f mine items,
        items_bound l c below (order_of j l),
        C.entering l,
        both_ends (own_row (kind_of j l) c) (children inner j l c) (suc (segments_in (mine ++ items))) b,
        mul-le-mul_right (suc R) h,
      )
    where
      both_ends : (x : Option Row) (n m : ℕ) (b : Bool) → sum f (stop_at l x) + sum f (cond b (closer l (opened j l) n m ∷ []) []) ≤ 1
      both_ends None n m true = omega (arith, C.ends l 0 0 n m (opened j l))
      both_ends None n m false = omega arith
      both_ends (Some p) n m true = omega (arith, C.ends l p.table p.row n m (opened j l))
      both_ends (Some p) n m false = omega (arith, C.ends l p.table p.row n m (opened j l))

  scaled : {A : Type 0} (g h : A → ℕ) (xs : List A) → ((x : A) → g x ≤ h x * K) → sum g xs ≤ sum h xs * K
  scaled g h [] e = omega arith
  scaled g h (x ∷ xs) e = omega (arith, e x, scaled g h xs e, add-mul (h x) (sum h xs) K)

  module _ (small : (l : ℕ) → length (order_of j l) ≤ W) where
    visits_bound : (h l : ℕ) (c : Context) → sum f (visits j h l c) ≤ enters_in (visits j h l c) * K
    unfolding visits
    visits_bound zero l c = omega arith
    visits_bound (suc h) l c = all (instances j (suc h) l c) (visits_bound h)
      where
        inst : Context → List Step
        inst = instance_steps (instances j h) (visits j h) j l

        one : ((k : ℕ) (d : Context) → sum f (visits j h k d) ≤ enters_in (visits j h k d) * K) → (d : Context) → sum f (inst d) ≤ enters_in (inst d) * K
        one below d =
            rw (enters_instance j l d (instances j h) (visits j h))
            (omega (arith, instance_bound l d (instances j h) (visits j h) (small l), scaled (λ k. sum f (visits j h k d)) (λ k. enters_in (visits j h k d)) (item_loops (order_of j l)) (λ k. below k d)))

        all : (cs : List Context) → ((k : ℕ) (d : Context) → sum f (visits j h k d) ≤ enters_in (visits j h k d) * K) → sum f (each inst cs) ≤ enters_in (each inst cs) * K
        all cs below = rw (sum_each f inst cs, enters_each inst cs) (scaled (λ d. sum f (inst d)) (λ d. enters_in (inst d)) cs (one below))

    pub tour_bound : sum f (tour j) ≤ census j * K
    unfolding tour_to census
    tour_bound =
        rw (sum_each f (λ l. visits j (length j.loops) l outside) j.roots, enters_each (λ l. visits j (length j.loops) l outside) j.roots)
        (scaled (λ l. sum f (visits j (length j.loops) l outside)) (λ l. enters_in (visits j (length j.loops) l outside)) j.roots (λ l. visits_bound (length j.loops) l outside))

-- ---- segments and stops

module _ (j : Outline) (R W : ℕ) (few : (t : ℕ) → row_count j t ≤ R) (small : (l : ℕ) → length (order_of j l) ≤ W) where
  pub segments_bound : segments_in (tour j) ≤ census j * (W * suc R + 1)
  unfolding segments_in
  segments_bound = tour_bound j R W writes counted small
    where
      counted : Counted j R writes
      counted = record {
        entering = λ l. refl;
        opening = λ l. omega arith;
        row = λ l i t r. omega arith;
        ends = λ l t r n m b. omega arith;
        repeats = λ l i t p. omega (arith, repeat_writes j l i t p, chunks_no_more (j.same_chunk l i) (max 1 (j.capacity t)) (repeat_rows j t l p), repeat_few j t l p, few t);
      }

  pub stops_bound : stops_in (tour j) ≤ census j * (W * suc R + 1)
  unfolding stops_in
  stops_bound = tour_bound j R W halts counted small
    where
      counted : Counted j R halts
      counted = record {
        entering = λ l. refl;
        opening = λ l. omega arith;
        row = λ l i t r. omega arith;
        ends = λ l t r n m b. omega arith;
        repeats = λ l i t p. omega (arith, repeat_halts j l i t p, repeat_few j t l p, few t);
      }
