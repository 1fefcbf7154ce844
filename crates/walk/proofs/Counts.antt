-- How many segments, instances and stops: of lists put together, of an instance, of the whole walk.
use Prim.Native.Nat.{ℕ, suc, ◌+◌, max}
use mathlib.Core.Path.{◌≡◌, refl, sym, ap, ◌∙◌}
use mathlib.Core.Bool.{Bool, true, false, cond, ◌&&◌}
use mathlib.Core.List.{List, [], ◌∷◌, ◌++◌}
use native.Mathlib.Omega.{arith}
use Rattle.std.specs.Prelude.{Option, None, Some}
use Rattle.std.proofs.Common.{append-nil}
use lib.ListN.{length}
use lib.Dec.{ltb}
use Rattle.nest.specs.Lists.{each, on, sum}
use Rattle.nest.specs.Outline.{Outline, Source, of_envelope, of_row, of_repeat, Item, segment, loop, item_loops, loop_of, kind_of, order_of, segment_of, planned, has_occurrence}
use Rattle.nest.specs.Nest.{Row, repeat_rows}
use Rattle.nest.proofs.Scan.{each_append}
use Rattle.nest.proofs.NestLaws.{length_each}
use Rattle.nest.proofs.Sums.{sum_append, sum_each, sum_same, sum_zero}
use Rattle.walk.specs.Instances.{Context, outside, instances}
use Rattle.walk.specs.Tour.{Step, enters, stop, opener, row_segment, fill, chunk, closer, writes, begins, halts, segments_in, enters_in, stops_in, stop_of, stop_list, due_list, own_row, stop_at, chunks_of, row_steps, chunk_steps, repeat_steps, due_row, from_source, segment_steps, item_steps, body_steps, opened, children, close_steps, instance_steps, visits, tour_to, census}
use Rattle.walk.proofs.TourLaws.{close_both}

-- ---- lists put together

-- entering an instance writes nothing
pub enters_count : (l : ℕ) (xs : List Step) → segments_in (enters l ∷ xs) ≡ segments_in xs
unfolding segments_in
enters_count l xs = omega arith

pub segments_append : (xs ys : List Step) → segments_in (xs ++ ys) ≡ segments_in xs + segments_in ys
unfolding segments_in
segments_append xs ys = sum_append writes xs ys

pub segments_each : {A : Type 0} (f : A → List Step) (xs : List A) → segments_in (each f xs) ≡ sum (λ x. segments_in (f x)) xs
unfolding segments_in
segments_each f xs = sum_each writes f xs

pub enters_append : (xs ys : List Step) → enters_in (xs ++ ys) ≡ enters_in xs + enters_in ys
unfolding enters_in
enters_append xs ys = sum_append begins xs ys

pub enters_each : {A : Type 0} (f : A → List Step) (xs : List A) → enters_in (each f xs) ≡ sum (λ x. enters_in (f x)) xs
unfolding enters_in
enters_each f xs = sum_each begins f xs

pub stops_append : (xs ys : List Step) → stops_in (xs ++ ys) ≡ stops_in xs + stops_in ys
unfolding stops_in
stops_append xs ys = sum_append halts xs ys

pub stops_each : {A : Type 0} (f : A → List Step) (xs : List A) → stops_in (each f xs) ≡ sum (λ x. stops_in (f x)) xs
unfolding stops_in
stops_each f xs = sum_each halts f xs

-- ---- the lists of stops and of due segments

pub stop_list_append : (xs ys : List Step) → stop_list (xs ++ ys) ≡ stop_list xs ++ stop_list ys
unfolding stop_list
stop_list_append xs ys = each_append stop_of xs ys

pub due_list_append : (xs ys : List Step) → due_list (xs ++ ys) ≡ due_list xs ++ due_list ys
unfolding due_list
due_list_append xs ys = each_append (λ s. cond (ltb 0 (writes s)) (s ∷ []) []) xs ys

pub stop_list_length : (xs : List Step) → length (stop_list xs) ≡ stops_in xs
unfolding stop_list stops_in
stop_list_length xs = length_each stop_of xs ∙ sum_same _ halts xs one
  where
    one : (s : Step) → length (stop_of s) ≡ halts s
    one (enters l) = refl
    one (stop l t r) = refl
    one (opener l) = refl
    one (row_segment l i t r) = refl
    one (fill l i t k r) = refl
    one (chunk l i t rs) = refl
    one (closer l o n m) = refl

pub due_list_length : (xs : List Step) → length (due_list xs) ≡ segments_in xs
unfolding due_list segments_in
due_list_length xs = length_each (λ s. cond (ltb 0 (writes s)) (s ∷ []) []) xs ∙ sum_same _ writes xs one
  where
    one : (s : Step) → length (cond (ltb 0 (writes s)) (s ∷ []) []) ≡ writes s
    one (enters l) = refl
    one (stop l t r) = refl
    one (opener l) = refl
    one (row_segment l i t r) = refl
    one (fill l i t k r) = refl
    one (chunk l i t rs) = refl
    one (closer l o n m) = refl

-- ---- an instance is entered once, and its segments enter none

-- what the rows of a chunk count: their stops, where a fill counts nothing
pub row_steps_sum : (f : Step → ℕ) → ((l i t k r : ℕ) → f (fill l i t k r) ≡ 0) → (l i t k : ℕ) (rs : List ℕ) → sum f (row_steps l i t k rs) ≡ sum (λ r. f (stop l t r)) rs
unfolding row_steps
row_steps_sum f z l i t k [] = refl
row_steps_sum f z l i t k (r ∷ rs) = omega (arith, z l i t k r, row_steps_sum f z l i t (suc k) rs)

choose : {A : Type 0} (f : A → ℕ) (x : A) (b : Bool) → f x ≡ 0 → sum f (cond b (x ∷ []) []) ≡ 0
choose f x true e = omega (arith, e)
choose f x false e = refl

repeat_enters : (j : Outline) (l i t p : ℕ) → enters_in (repeat_steps j l i t p) ≡ 0
unfolding enters_in repeat_steps
repeat_enters j l i t p =
    sum_each begins (chunk_steps l i t) (chunks_of (j.same_chunk l i) (max 1 (j.capacity t)) (repeat_rows j t l p))
    ∙ sum_zero _ (chunks_of (j.same_chunk l i) (max 1 (j.capacity t)) (repeat_rows j t l p)) one
  where
    one : (rs : List ℕ) → sum begins (chunk_steps l i t rs) ≡ 0
    one rs = omega (arith, sum_append begins (row_steps l i t 0 rs) (chunk l i t rs ∷ []), row_steps_sum begins (λ l i t k r. refl) l i t 0 rs, sum_zero (λ r. begins (stop l t r)) rs (λ r. refl))

segment_enters : (j : Outline) (l : ℕ) (c : Context) (i : ℕ) → enters_in (segment_steps j l c i) ≡ 0
unfolding enters_in segment_steps
segment_enters j l c i = go (ltb i (planned j l))
  where
    given : (t : ℕ) (x : Option ℕ) → enters_in (on x (λ r. cond (has_occurrence j l i && due_row j l i t r) (row_segment l i t r ∷ []) []) []) ≡ 0
    given t None = refl
    given t (Some r) = choose begins (row_segment l i t r) (has_occurrence j l i && due_row j l i t r) refl

    owned : (t : ℕ) (x : Option Row) → enters_in (on x (λ p. repeat_steps j l i t p.row) []) ≡ 0
    owned t None = refl
    owned t (Some p) = repeat_enters j l i t p.row

    fits : (t : ℕ) (b : Bool) → enters_in (cond b (on (own_row (kind_of j l) c) (λ p. repeat_steps j l i t p.row) []) []) ≡ 0
    fits t true = owned t (own_row (kind_of j l) c)
    fits t false = refl

    by_source : (s : Source) → enters_in (from_source j l i c s) ≡ 0
    by_source of_envelope = choose begins (opener l) (loop_of j l).controlled refl
    by_source (of_row t) = given t (c.row t)
    by_source (of_repeat t) = fits t (has_occurrence j l i)

    go : (b : Bool) → enters_in (cond b (from_source j l i c (segment_of j l i).source) []) ≡ 0
    go true = by_source (segment_of j l i).source
    go false = refl

items_enter : (j : Outline) (l : ℕ) (c : Context) (below : ℕ → Context → List Step) (its : List Item) → enters_in (each (item_steps below j l c) its) ≡ sum (λ k. enters_in (below k c)) (item_loops its)
unfolding enters_in
items_enter j l c below [] = refl
items_enter j l c below (segment i ∷ more) = omega (arith, enters_append (segment_steps j l c i) (each (item_steps below j l c) more), segment_enters j l c i, items_enter j l c below more)
items_enter j l c below (loop k ∷ more) = omega (arith, enters_append (below k c) (each (item_steps below j l c) more), items_enter j l c below more)

pub enters_instance : (j : Outline) (l : ℕ) (c : Context) (inner : ℕ → Context → List Context) (below : ℕ → Context → List Step)
    → enters_in (instance_steps inner below j l c) ≡ suc (sum (λ k. enters_in (below k c)) (item_loops (order_of j l)))
unfolding instance_steps body_steps close_steps enters_in
enters_instance j l c inner below =
    let mine : List Step = stop_at l (own_row (kind_of j l) c) in
    let items : List Step = each (item_steps below j l c) (order_of j l) in
    let closing : List Step = close_steps j l (children inner j l c) (mine ++ items) in
    omega (
      arith,
      sum_append begins (mine ++ items) closing,
      sum_append begins mine items,
      items_enter j l c below (order_of j l),
      own_stop (own_row (kind_of j l) c),
      choose begins (closer l (opened j l) (children inner j l c) (suc (segments_in (mine ++ items)))) ((loop_of j l).ends && (loop_of j l).controlled) refl,
    )
  where
    own_stop : (x : Option Row) → sum begins (stop_at l x) ≡ 0
    own_stop None = refl
    own_stop (Some p) = refl

-- ---- the census: each instance, and the instances of its child loops

pub enters_deep : (j : Outline) (l : ℕ) (c : Context) → enters_in (visits j 0 l c) ≡ 0
unfolding visits enters_in
enters_deep j l c = refl

pub enters_visits : (j : Outline) (h l : ℕ) (c : Context)
    → enters_in (visits j (suc h) l c) ≡ sum (λ d. suc (sum (λ k. enters_in (visits j h k d)) (item_loops (order_of j l)))) (instances j (suc h) l c)
unfolding visits
enters_visits j h l c =
    enters_each (instance_steps (instances j h) (visits j h) j l) (instances j (suc h) l c)
    ∙ sum_same _ _ (instances j (suc h) l c) (λ d. enters_instance j l d (instances j h) (visits j h))

pub census_roots : (j : Outline) → census j ≡ sum (λ l. enters_in (visits j (length j.loops) l outside)) j.roots
unfolding census tour_to
census_roots j = enters_each (λ l. visits j (length j.loops) l outside) j.roots

-- ---- a closer's count is the number of segments of its instance

pub closer_counts : (j : Outline) (l : ℕ) (c : Context) (inner : ℕ → Context → List Context) (below : ℕ → Context → List Step) → (loop_of j l).ends ≡ true → (loop_of j l).controlled ≡ true
    → segments_in (instance_steps inner below j l c) ≡ suc (segments_in (body_steps below j l c))
unfolding instance_steps segments_in
closer_counts j l c inner below e q =
    let body : List Step = body_steps below j l c in
    omega (arith, sum_append writes body (close_steps j l (children inner j l c) body), ap (sum writes) (close_both j l (children inner j l c) body e q))

-- an instance with its closer
closed : (j : Outline) (l : ℕ) (c : Context) (inner : ℕ → Context → List Context) (below : ℕ → Context → List Step) → (loop_of j l).ends ≡ true → (loop_of j l).controlled ≡ true
    → instance_steps inner below j l c ≡ enters l ∷ body_steps below j l c ++ (closer l (opened j l) (children inner j l c) (suc (segments_in (body_steps below j l c))) ∷ [])
unfolding instance_steps
closed j l c inner below e q = ap (λ (xs : List Step). enters l ∷ body_steps below j l c ++ xs) (close_both j l (children inner j l c) (body_steps below j l c) e q)

pub closed_counts : (j : Outline) (l : ℕ) (c : Context) (inner : ℕ → Context → List Context) (below : ℕ → Context → List Step) → (loop_of j l).ends ≡ true → (loop_of j l).controlled ≡ true
    → instance_steps inner below j l c ≡ enters l ∷ body_steps below j l c ++ (closer l (opened j l) (children inner j l c) (segments_in (instance_steps inner below j l c)) ∷ [])
closed_counts j l c inner below e q =
    let told : ℕ → List Step = λ n. enters l ∷ body_steps below j l c ++ (closer l (opened j l) (children inner j l c) n ∷ []) in
    closed j l c inner below e q ∙ ap told (sym (closer_counts j l c inner below e q))

-- an instance without a closer
pub open_ended : (j : Outline) (l : ℕ) (c : Context) (inner : ℕ → Context → List Context) (below : ℕ → Context → List Step) → ((loop_of j l).ends && (loop_of j l).controlled) ≡ false
    → instance_steps inner below j l c ≡ enters l ∷ body_steps below j l c
unfolding instance_steps close_steps
open_ended j l c inner below e = rw e (ap (λ (xs : List Step). enters l ∷ xs) (append-nil (body_steps below j l c)))
