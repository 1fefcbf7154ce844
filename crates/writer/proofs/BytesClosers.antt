-- The counts of every closer of a walk are no more than the segments and instances of the whole walk.
use Prim.Native.Nat.{ℕ, zero, suc, ◌+◌, ◌≤◌, max}
use mathlib.Core.Path.{◌≡◌, refl}
use mathlib.Core.Bool.{Bool, true, false, cond, ◌&&◌}
use mathlib.Core.List.{List, [], ◌∷◌, ◌++◌}
use native.Mathlib.Omega.{arith}
use Rattle.std.specs.Prelude.{Option, None, Some}
use lib.ListN.{length}
use lib.Dec.{ltb}
use Rattle.nest.specs.Lists.{each, on, sum, All}
use Rattle.nest.specs.Outline.{Outline, Source, of_envelope, of_row, of_repeat, Item, segment, loop, item_loops, loop_of, plan_of, kind_of, order_of, segment_of, has_occurrence}
use Rattle.nest.specs.Nest.{Row, repeat_rows}
use Rattle.nest.proofs.Alls.{all_append}
use Rattle.walk.specs.Instances.{Context, outside, instances}
use Rattle.walk.specs.Tour.{Step, enters, stop, opener, row_segment, fill, chunk, closer, writes, segments_in, enters_in, own_row, stop_at, chunks_of, row_steps, chunk_steps, repeat_steps, due_row, from_source, segment_steps, item_steps, body_steps, opened, children, close_steps, instance_steps, visits, tour_to, tour, census}
use Rattle.walk.proofs.Counts.{enters_count, segments_append, enters_append, enters_instance, enters_visits}

-- a closer's counts are no more than T
abbrev pub Fine : ℕ → Step → Type 0
Fine T (enters l) = Unit {0}
Fine T (stop l t r) = Unit {0}
Fine T (opener l) = Unit {0}
Fine T (row_segment l i t r) = Unit {0}
Fine T (fill l i t k r) = Unit {0}
Fine T (chunk l i t rs) = Unit {0}
Fine T (closer l b n m) = (n ≤ T) × (m ≤ T)

abbrev load : List Step → ℕ
load xs = segments_in xs + enters_in xs

module _ (j : Outline) (T : ℕ) where
  -- ---- segments have none

  rows_fine : (l i t k : ℕ) (rs : List ℕ) → All (Fine T) (row_steps l i t k rs)
  unfolding row_steps
  rows_fine l i t k [] = tt
  rows_fine l i t k (r ∷ rs) = (tt, (tt, rows_fine l i t (suc k) rs))

  chunks_fine : (l i t : ℕ) (cs : List (List ℕ)) → All (Fine T) (each (chunk_steps l i t) cs)
  chunks_fine l i t [] = tt
  chunks_fine l i t (rs ∷ cs) =
      all_append (Fine T) (chunk_steps l i t rs) (each (chunk_steps l i t) cs) (all_append (Fine T) (row_steps l i t 0 rs) (chunk l i t rs ∷ []) (rows_fine l i t 0 rs) (tt, tt)) (chunks_fine l i t cs)

  repeats_fine : (l i t p : ℕ) → All (Fine T) (repeat_steps j l i t p)
  unfolding repeat_steps
  repeats_fine l i t p = chunks_fine l i t (chunks_of (j.same_chunk l i) (max 1 (j.capacity t)) (repeat_rows j t l p))

  segment_fine : (l : ℕ) (c : Context) (i : ℕ) → All (Fine T) (segment_steps j l c i)
  unfolding segment_steps
  segment_fine l c i = go (ltb i (length (plan_of j l).segments))
    where
      owned : (t : ℕ) (x : Option Row) → All (Fine T) (on x (λ p. repeat_steps j l i t p.row) [])
      owned t None = tt
      owned t (Some p) = repeats_fine l i t p.row

      fits : (t : ℕ) (b : Bool) → All (Fine T) (cond b (on (own_row (kind_of j l) c) (λ p. repeat_steps j l i t p.row) []) [])
      fits t true = owned t (own_row (kind_of j l) c)
      fits t false = tt

      choose : (b : Bool) → All (Fine T) (cond b (opener l ∷ []) [])
      choose true = (tt, tt)
      choose false = tt

      is_due : (t r : ℕ) (b : Bool) → All (Fine T) (cond b (row_segment l i t r ∷ []) [])
      is_due t r true = (tt, tt)
      is_due t r false = tt

      given : (t : ℕ) (x : Option ℕ) → All (Fine T) (on x (λ r. cond (has_occurrence j l i && due_row j l i t r) (row_segment l i t r ∷ []) []) [])
      given t None = tt
      given t (Some r) = is_due t r (has_occurrence j l i && due_row j l i t r)

      by_source : (s : Source) → All (Fine T) (from_source j l i c s)
      by_source of_envelope = choose (loop_of j l).controlled
      by_source (of_row t) = given t (c.row t)
      by_source (of_repeat t) = fits t (has_occurrence j l i)

      go : (b : Bool) → All (Fine T) (cond b (from_source j l i c (segment_of j l i).source) [])
      go true = by_source (segment_of j l i).source
      go false = tt

  -- ---- instances

  load_append : (xs ys : List Step) → load (xs ++ ys) ≡ load xs + load ys
  load_append xs ys = omega (arith, segments_append xs ys, enters_append xs ys)

  items_fine : (l : ℕ) (c : Context) (below : ℕ → Context → List Step) → ((k : ℕ) → load (below k c) ≤ T → All (Fine T) (below k c)) → (its : List Item)
      → load (each (item_steps below j l c) its) ≤ T → All (Fine T) (each (item_steps below j l c) its)
  items_fine l c below b [] h = tt
  items_fine l c below b (segment i ∷ its) h =
      all_append (Fine T) (segment_steps j l c i) (each (item_steps below j l c) its) (segment_fine l c i)
      (items_fine l c below b its (omega (arith, h, load_append (segment_steps j l c i) (each (item_steps below j l c) its))))
  items_fine l c below b (loop k ∷ its) h =
      all_append (Fine T) (below k c) (each (item_steps below j l c) its) (b k (omega (arith, h, load_append (below k c) (each (item_steps below j l c) its))))
      (items_fine l c below b its (omega (arith, h, load_append (below k c) (each (item_steps below j l c) its))))

  stop_fine : (l : ℕ) (x : Option Row) → All (Fine T) (stop_at l x)
  stop_fine l None = tt
  stop_fine l (Some p) = (tt, tt)

  close_fine : (l n : ℕ) (body : List Step) → n ≤ T → segments_in body + segments_in (close_steps j l n body) ≤ T → All (Fine T) (close_steps j l n body)
  unfolding close_steps segments_in
  close_fine l n body h k = go ((loop_of j l).ends && (loop_of j l).controlled) k
    where
      go : (b : Bool) → sum writes body + sum writes (cond b (closer l (opened j l) n (suc (sum writes body)) ∷ []) []) ≤ T → All (Fine T) (cond b (closer l (opened j l) n (suc (sum writes body)) ∷ []) [])
      go true k = ((h, omega (arith, k)), tt)
      go false k = tt

  enters_head : (l : ℕ) (xs : List Step) → enters_in (enters l ∷ xs) ≡ suc (enters_in xs)
  unfolding enters_in
  enters_head l xs = omega arith

  parts_fine : (l : ℕ) (c : Context) (inner : ℕ → Context → List Context) (below : ℕ → Context → List Step) → ((k : ℕ) → load (below k c) ≤ T → All (Fine T) (below k c))
      → children inner j l c ≤ T → load (instance_steps inner below j l c) ≤ T → All (Fine T) (instance_steps inner below j l c)
  unfolding instance_steps body_steps
  parts_fine l c inner below b few h =
      let mine : List Step = stop_at l (own_row (kind_of j l) c) in
      let items : List Step = each (item_steps below j l c) (order_of j l) in
      let last : List Step = close_steps j l (children inner j l c) (mine ++ items) in
      let s₁ = enters_count l ((mine ++ items) ++ last) in
      let s₂ = segments_append (mine ++ items) last in
      let s₃ = segments_append mine items in
      let e₁ = enters_head l ((mine ++ items) ++ last) in
      let e₂ = enters_append (mine ++ items) last in
      let e₃ = enters_append mine items in
      let m : load items ≤ T = omega (arith, h, s₁, s₂, s₃, e₁, e₂, e₃) in
      let k : segments_in (mine ++ items) + segments_in last ≤ T = omega (arith, h, s₁, s₂, e₁) in
      (tt, all_append (Fine T) (mine ++ items) last (all_append (Fine T) mine items (stop_fine l (own_row (kind_of j l) c)) (items_fine l c below b (order_of j l) m)) (close_fine l (children inner j l c) (mine ++ items) few k))

  children_few : (l : ℕ) (c : Context) (inner : ℕ → Context → List Context) (below : ℕ → Context → List Step) → ((k : ℕ) → length (inner k c) ≤ enters_in (below k c))
      → children inner j l c ≤ sum (λ k. enters_in (below k c)) (item_loops (order_of j l))
  unfolding children
  children_few l c inner below few = go (item_loops (order_of j l))
    where
      go : (ks : List ℕ) → sum (λ k. length (inner k c)) ks ≤ sum (λ k. enters_in (below k c)) ks
      go [] = omega arith
      go (k ∷ ks) = omega (arith, few k, go ks)

  instance_fine : (l : ℕ) (c : Context) (inner : ℕ → Context → List Context) (below : ℕ → Context → List Step) → ((k : ℕ) → load (below k c) ≤ T → All (Fine T) (below k c))
      → ((k : ℕ) → length (inner k c) ≤ enters_in (below k c)) → load (instance_steps inner below j l c) ≤ T → All (Fine T) (instance_steps inner below j l c)
  instance_fine l c inner below b few h = parts_fine l c inner below b (omega (arith, h, enters_instance j l c inner below, children_few l c inner below few)) h

  each_fine : {A : Type 0} (f : A → List Step) → ((x : A) → load (f x) ≤ T → All (Fine T) (f x)) → (xs : List A) → load (each f xs) ≤ T → All (Fine T) (each f xs)
  each_fine f g [] h = tt
  each_fine f g (x ∷ xs) h = all_append (Fine T) (f x) (each f xs) (g x (omega (arith, h, load_append (f x) (each f xs)))) (each_fine f g xs (omega (arith, h, load_append (f x) (each f xs))))

  one_each : {A : Type 0} (f : A → ℕ) (xs : List A) → length xs ≤ sum (λ x. suc (f x)) xs
  one_each f [] = omega arith
  one_each f (x ∷ xs) = omega (arith, one_each f xs)

  none_yet : (k : ℕ) (c : Context) → length (instances j 0 k c) ≡ 0
  unfolding instances
  none_yet k c = refl

  instances_few : (h k : ℕ) (c : Context) → length (instances j h k c) ≤ enters_in (visits j h k c)
  instances_few zero k c = omega (arith, none_yet k c)
  instances_few (suc h) k c = rw (enters_visits j h k c) (one_each (λ d. sum (λ k. enters_in (visits j h k d)) (item_loops (order_of j k))) (instances j (suc h) k c))

  visits_fine : (h l : ℕ) (c : Context) → load (visits j h l c) ≤ T → All (Fine T) (visits j h l c)
  unfolding visits
  visits_fine zero l c q = tt
  visits_fine (suc h) l c q = each_fine (instance_steps (instances j h) (visits j h) j l) (λ d e. instance_fine l d (instances j h) (visits j h) (λ k. visits_fine h k d) (λ k. instances_few h k d) e) (instances j (suc h) l c) q

-- the whole walk
pub tour_fine : (j : Outline) (T : ℕ) → segments_in (tour j) + census j ≤ T → All (Fine T) (tour j)
unfolding census tour_to
tour_fine j T h = each_fine j T (λ l. visits j (length j.loops) l outside) (λ l. visits_fine j T (length j.loops) l outside) j.roots h
