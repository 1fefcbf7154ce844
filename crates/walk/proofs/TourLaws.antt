-- Instances and steps, one law for each way that code takes.
use Prim.Native.Nat.{ℕ, suc, ◌+◌, ◌≤◌, ◌<◌, max}
use mathlib.Core.Path.{◌≡◌, refl, ap, ◌∙◌}
use mathlib.Core.Logic.{◌⊎◌, inl, inr}
use mathlib.Core.Bool.{Bool, true, false, cond, not, ◌&&◌}
use mathlib.Core.List.{List, [], ◌∷◌, ◌++◌, map, append-nil}
use Rattle.std.specs.Prelude.{Option, None, Some}
use lib.ListN.{length, drop, get_or, drop_of_length-le}
use borrow.Author.Tests.{lt-ltb, le-ltb}
use Rattle.nest.specs.Lists.{each, some_of, is_empty_list, on, sum}
use Rattle.nest.specs.Outline.{Outline, Kind, absent, envelope, implied, rows, inside, groups, row_table, of_envelope, of_row, of_repeat, Item, segment, loop, item_loops, loop_of, kind_of, order_of, segment_of, planned, has_occurrence}
use Rattle.nest.specs.Nest.{repeat_rows}
use Rattle.nest.proofs.Scan.{each_map, drop_next, some_at, some_not_at, some_past}
use Rattle.walk.specs.Instances.{Context, outside, pieces, pieces_of, in_row, in_piece, shown, rows_in, by_kind, instances}
use Rattle.walk.specs.Tour.{Step, enters, stop, opener, row_segment, closer, segments_in, own_row, chunks_of, chunk_steps, repeat_steps, due_row, segment_steps, item_steps, body_steps, opens_at, opened, children, close_steps, instance_steps, visits, tour_to}

-- ---- the instances of a loop, by its kind

pub inst_deep : (j : Outline) (l : ℕ) (c : Context) → instances j 0 l c ≡ []
unfolding instances
inst_deep j l c = refl

pub inst_absent : (j : Outline) (h l : ℕ) (c : Context) → kind_of j l ≡ absent → instances j (suc h) l c ≡ []
unfolding instances by_kind
inst_absent j h l c e = rw e

pub inst_envelope : (j : Outline) (h l : ℕ) (c : Context) → kind_of j l ≡ envelope → instances j (suc h) l c ≡ c ∷ []
unfolding instances by_kind
inst_envelope j h l c e = rw e

pub inst_rows : (j : Outline) (h l t : ℕ) (c : Context) → kind_of j l ≡ rows t → instances j (suc h) l c ≡ map (in_row t c) (rows_in j t c)
unfolding instances by_kind
inst_rows j h l t c e = rw e

pub inst_groups : (j : Outline) (h l t : ℕ) (c : Context) → kind_of j l ≡ groups t → instances j (suc h) l c ≡ map (in_piece t c) (pieces_of (j.same_group l) (rows_in j t c))
unfolding instances by_kind
inst_groups j h l t c e = rw e

pub inst_rowless : (j : Outline) (h l t : ℕ) (c : Context) → kind_of j l ≡ inside t → c.row t ≡ None → instances j (suc h) l c ≡ []
unfolding instances by_kind
inst_rowless j h l t c e q = rw e (rw q)

pub inst_shown : (j : Outline) (h l t r : ℕ) (c : Context) → kind_of j l ≡ inside t → c.row t ≡ Some r → shown j l t r ≡ true → instances j (suc h) l c ≡ c ∷ []
unfolding instances by_kind
inst_shown j h l t r c e q s = rw e (rw q (rw s))

pub inst_hidden : (j : Outline) (h l t r : ℕ) (c : Context) → kind_of j l ≡ inside t → c.row t ≡ Some r → shown j l t r ≡ false → instances j (suc h) l c ≡ []
unfolding instances by_kind
inst_hidden j h l t r c e q s = rw e (rw q (rw s))

-- whether one of the children from place i on has an instance
abbrev pub some_child : Outline → ℕ → ℕ → Context → ℕ → Bool
some_child j h l c i = some_of (λ k. not (is_empty_list (instances j h k c))) (drop i (loop_of j l).children)

pub inst_implied : (j : Outline) (h l : ℕ) (c : Context) → kind_of j l ≡ implied → instances j (suc h) l c ≡ cond (some_child j h l c 0) (c ∷ []) []
unfolding instances by_kind
inst_implied j h l c e = rw e

pub child_found : (j : Outline) (h l : ℕ) (c : Context) (i : ℕ) → i < length (loop_of j l).children → is_empty_list (instances j h (get_or (loop_of j l).children i 0) c) ≡ false
    → some_child j h l c i ≡ true
child_found j h l c i b e = some_at _ (loop_of j l).children i 0 b (ap not e)

pub child_next : (j : Outline) (h l : ℕ) (c : Context) (i : ℕ) → i < length (loop_of j l).children → is_empty_list (instances j h (get_or (loop_of j l).children i 0) c) ≡ true
    → some_child j h l c i ≡ some_child j h l c (i + 1)
child_next j h l c i b e = some_not_at _ (loop_of j l).children i 0 b (ap not e)

pub child_end : (j : Outline) (h l : ℕ) (c : Context) (i : ℕ) → length (loop_of j l).children ≤ i → some_child j h l c i ≡ false
child_end j h l c i b = some_past _ (loop_of j l).children i b

-- a list of rows gives instances exactly where it has one
pub empty_rows : (t : ℕ) (c : Context) (xs : List ℕ) → is_empty_list (map (in_row t c) xs) ≡ is_empty_list xs
empty_rows t c [] = refl
empty_rows t c (x ∷ xs) = refl

some_piece : (t : ℕ) (c : Context) (same : ℕ → ℕ → Bool) (more : List ℕ) (head start end : ℕ) → is_empty_list (map (in_piece t c) (pieces same head start end more)) ≡ false
unfolding pieces
some_piece t c same [] head start end = refl
some_piece t c same (r ∷ more) head start end = go (same head r) (some_piece t c same more head start (suc end))
  where
    go : (b : Bool) → is_empty_list (map (in_piece t c) (pieces same head start (suc end) more)) ≡ false
        → is_empty_list (map (in_piece t c) (cond b (pieces same head start (suc end) more) (record { head = head; start = start; end = end } ∷ pieces same r end (suc end) more))) ≡ false
    go true on = on
    go false on = refl

pub empty_groups : (t : ℕ) (c : Context) (same : ℕ → ℕ → Bool) (xs : List ℕ) → is_empty_list (map (in_piece t c) (pieces_of same xs)) ≡ is_empty_list xs
empty_groups t c same [] = refl
empty_groups t c same (r ∷ more) = some_piece t c same more r 0 1

-- ---- the steps of all instances of a loop

abbrev pub steps_of : Outline → ℕ → ℕ → Context → List Step
steps_of j h l c = instance_steps (instances j h) (visits j h) j l c

pub visits_deep : (j : Outline) (l : ℕ) (c : Context) → visits j 0 l c ≡ []
unfolding visits
visits_deep j l c = refl

visits_by : (j : Outline) (h l : ℕ) (c : Context) (cs : List Context) → instances j (suc h) l c ≡ cs → visits j (suc h) l c ≡ each (steps_of j h l) cs
unfolding visits
visits_by j h l c cs e = ap (each (steps_of j h l)) e

pub visits_none : (j : Outline) (h l : ℕ) (c : Context) → instances j (suc h) l c ≡ [] → visits j (suc h) l c ≡ []
visits_none j h l c e = visits_by j h l c [] e

pub visits_one : (j : Outline) (h l : ℕ) (c : Context) → instances j (suc h) l c ≡ c ∷ [] → visits j (suc h) l c ≡ steps_of j h l c
visits_one j h l c e = visits_by j h l c (c ∷ []) e ∙ append-nil (steps_of j h l c)

pub visits_rows : (j : Outline) (h l t : ℕ) (c : Context) → kind_of j l ≡ rows t → visits j (suc h) l c ≡ each (λ r. steps_of j h l (in_row t c r)) (rows_in j t c)
visits_rows j h l t c e = visits_by j h l c _ (inst_rows j h l t c e) ∙ each_map (steps_of j h l) (in_row t c) (rows_in j t c)

pub visits_groups : (j : Outline) (h l t : ℕ) (c : Context) → kind_of j l ≡ groups t
    → visits j (suc h) l c ≡ each (λ p. steps_of j h l (in_piece t c p)) (pieces_of (j.same_group l) (rows_in j t c))
visits_groups j h l t c e = visits_by j h l c _ (inst_groups j h l t c e) ∙ each_map (steps_of j h l) (in_piece t c) (pieces_of (j.same_group l) (rows_in j t c))

-- ---- one instance: it begins, stops at its row, goes through its items and closes

pub instance_steps_lem : (inner : ℕ → Context → List Context) (below : ℕ → Context → List Step) (j : Outline) (l : ℕ) (c : Context)
    → instance_steps inner below j l c ≡ enters l ∷ body_steps below j l c ++ close_steps j l (children inner j l c) (body_steps below j l c)
unfolding instance_steps
instance_steps_lem inner below j l c = refl

pub body_row : (below : ℕ → Context → List Step) (j : Outline) (l t r : ℕ) (c : Context) → kind_of j l ≡ rows t → c.row t ≡ Some r
    → body_steps below j l c ≡ stop l t r ∷ each (item_steps below j l c) (drop 0 (order_of j l))
unfolding body_steps
body_row below j l t r c e q = rw e (rw q)

pub body_rowless : (below : ℕ → Context → List Step) (j : Outline) (l : ℕ) (c : Context) → own_row (kind_of j l) c ≡ None
    → body_steps below j l c ≡ each (item_steps below j l c) (drop 0 (order_of j l))
unfolding body_steps
body_rowless below j l c e = rw e

pub own_none : (k : Kind) (c : Context) → row_table k ≡ None → own_row k c ≡ None
own_none k c e = rw e

pub own_null : (k : Kind) (c : Context) (t : ℕ) → row_table k ≡ Some t → c.row t ≡ None → own_row k c ≡ None
own_null k c t e q = rw e (rw q)

pub close_both : (j : Outline) (l n : ℕ) (body : List Step) → (loop_of j l).ends ≡ true → (loop_of j l).controlled ≡ true
    → close_steps j l n body ≡ closer l (opened j l) n (suc (segments_in body)) ∷ []
unfolding close_steps
close_both j l n body e q = rw (e, q)

pub close_endless : (j : Outline) (l n : ℕ) (body : List Step) → (loop_of j l).ends ≡ false → close_steps j l n body ≡ []
unfolding close_steps
close_endless j l n body e = rw e

pub close_free : (j : Outline) (l n : ℕ) (body : List Step) → (loop_of j l).controlled ≡ false → close_steps j l n body ≡ []
unfolding close_steps
close_free j l n body e = rw e (go (loop_of j l).ends)
  where
    go : (b : Bool) → cond (b && false) (closer l (opened j l) n (suc (segments_in body)) ∷ []) [] ≡ []
    go true = refl
    go false = refl

-- ---- the order from place i on: its items (`each_at`, `each_past`), whether it opens, and its child instances

abbrev pub no_item : Item
no_item = segment 0

abbrev pub opens_from : Outline → ℕ → ℕ → Bool
opens_from j l i = some_of (opens_at j l) (drop i (order_of j l))

pub opens_all : (j : Outline) (l : ℕ) → opened j l ≡ opens_from j l 0
unfolding opened
opens_all j l = refl

pub opens_here : (j : Outline) (l i : ℕ) → i < length (order_of j l) → opens_at j l (get_or (order_of j l) i no_item) ≡ true → opens_from j l i ≡ true
opens_here j l i h e = some_at (opens_at j l) (order_of j l) i no_item h e

pub opens_next : (j : Outline) (l i : ℕ) → i < length (order_of j l) → opens_at j l (get_or (order_of j l) i no_item) ≡ false → opens_from j l i ≡ opens_from j l (i + 1)
opens_next j l i h e = some_not_at (opens_at j l) (order_of j l) i no_item h e

pub opens_end : (j : Outline) (l i : ℕ) → length (order_of j l) ≤ i → opens_from j l i ≡ false
opens_end j l i h = some_past (opens_at j l) (order_of j l) i h

abbrev pub children_from : (ℕ → Context → List Context) → Outline → ℕ → Context → ℕ → ℕ
children_from inner j l c i = sum (λ k. length (inner k c)) (item_loops (drop i (order_of j l)))

pub children_all : (inner : ℕ → Context → List Context) (j : Outline) (l : ℕ) (c : Context) → children inner j l c ≡ children_from inner j l c 0
unfolding children
children_all inner j l c = refl

pub children_segment : (inner : ℕ → Context → List Context) (j : Outline) (l : ℕ) (c : Context) (i n : ℕ) → i < length (order_of j l) → get_or (order_of j l) i no_item ≡ segment n
    → children_from inner j l c i ≡ children_from inner j l c (i + 1)
children_segment inner j l c i n h e = rw (drop_next (order_of j l) i no_item h, e)

pub children_loop : (inner : ℕ → Context → List Context) (j : Outline) (l : ℕ) (c : Context) (i k : ℕ) → i < length (order_of j l) → get_or (order_of j l) i no_item ≡ loop k
    → children_from inner j l c i ≡ length (inner k c) + children_from inner j l c (i + 1)
children_loop inner j l c i k h e = rw (drop_next (order_of j l) i no_item h, e)

pub children_end : (inner : ℕ → Context → List Context) (j : Outline) (l : ℕ) (c : Context) (i : ℕ) → length (order_of j l) ≤ i → children_from inner j l c i ≡ 0
children_end inner j l c i h = rw (drop_of_length-le (order_of j l) h)

-- ---- a planned segment

pub segment_unplanned : (j : Outline) (l : ℕ) (c : Context) (i : ℕ) → planned j l ≤ i → segment_steps j l c i ≡ []
unfolding segment_steps
segment_unplanned j l c i h = rw (le-ltb i (planned j l) h)

pub segment_opener : (j : Outline) (l : ℕ) (c : Context) (i : ℕ) → i < planned j l → (segment_of j l i).source ≡ of_envelope → (loop_of j l).controlled ≡ true
    → segment_steps j l c i ≡ opener l ∷ []
unfolding segment_steps
segment_opener j l c i h s e = rw (lt-ltb i (planned j l) h, s) (rw e)

pub segment_free : (j : Outline) (l : ℕ) (c : Context) (i : ℕ) → i < planned j l → (segment_of j l i).source ≡ of_envelope → (loop_of j l).controlled ≡ false → segment_steps j l c i ≡ []
unfolding segment_steps
segment_free j l c i h s e = rw (lt-ltb i (planned j l) h, s) (rw e)

pub segment_rowless : (j : Outline) (l : ℕ) (c : Context) (i t : ℕ) → i < planned j l → (segment_of j l i).source ≡ of_row t → c.row t ≡ None → segment_steps j l c i ≡ []
unfolding segment_steps
segment_rowless j l c i t h s e = rw (lt-ltb i (planned j l) h, s) (rw e)

pub segment_row : (j : Outline) (l : ℕ) (c : Context) (i t r : ℕ) → i < planned j l → (segment_of j l i).source ≡ of_row t → c.row t ≡ Some r → has_occurrence j l i ≡ true → due_row j l i t r ≡ true
    → segment_steps j l c i ≡ row_segment l i t r ∷ []
unfolding segment_steps
segment_row j l c i t r h s e q d = rw (lt-ltb i (planned j l) h, s) (rw e (rw (q, d)))

pub segment_skipped : (j : Outline) (l : ℕ) (c : Context) (i t r : ℕ) → i < planned j l → (segment_of j l i).source ≡ of_row t → c.row t ≡ Some r → due_row j l i t r ≡ false
    → segment_steps j l c i ≡ []
unfolding segment_steps
segment_skipped j l c i t r h s e d = rw (lt-ltb i (planned j l) h, s) (rw e (rw d (go (has_occurrence j l i))))
  where
    go : (b : Bool) → cond (b && false) (row_segment l i t r ∷ []) [] ≡ []
    go true = refl
    go false = refl

-- the loop has no such occurrence: neither a row segment nor a repeat segment
pub segment_nameless : (j : Outline) (l : ℕ) (c : Context) (i t : ℕ) → i < planned j l → ((segment_of j l i).source ≡ of_row t) ⊎ ((segment_of j l i).source ≡ of_repeat t) → has_occurrence j l i ≡ false
    → segment_steps j l c i ≡ []
unfolding segment_steps
segment_nameless j l c i t h (inl s) q = rw (lt-ltb i (planned j l) h, s) (rw q (go (c.row t)))
  where
    go : (x : Option ℕ) → on {B = List Step} x (λ r. []) [] ≡ []
    go None = refl
    go (Some r) = refl
segment_nameless j l c i t h (inr s) q = rw (lt-ltb i (planned j l) h, s) (rw q)

pub segment_ownerless : (j : Outline) (l : ℕ) (c : Context) (i t : ℕ) → i < planned j l → (segment_of j l i).source ≡ of_repeat t → own_row (kind_of j l) c ≡ None → segment_steps j l c i ≡ []
unfolding segment_steps
segment_ownerless j l c i t h s e = rw (lt-ltb i (planned j l) h, s) (rw e (go (has_occurrence j l i)))
  where
    go : (b : Bool) → cond {A = List Step} b [] [] ≡ []
    go true = refl
    go false = refl

pub segment_repeat : (j : Outline) (l : ℕ) (c : Context) (i t u p : ℕ) → i < planned j l → (segment_of j l i).source ≡ of_repeat t → has_occurrence j l i ≡ true → kind_of j l ≡ rows u → c.row u ≡ Some p
    → segment_steps j l c i ≡ repeat_steps j l i t p
unfolding segment_steps
segment_repeat j l c i t u p h s q e o = rw (lt-ltb i (planned j l) h, s) (rw (q, e) (rw o))

-- ---- whether a row segment is due

pub due_dataless : (j : Outline) (l i t r : ℕ) → length j.row_counts ≤ t → due_row j l i t r ≡ false
unfolding due_row
due_dataless j l i t r h = rw (le-ltb t (length j.row_counts) h)

pub due_forced : (j : Outline) (l i t r : ℕ) → t < length j.row_counts → j.forced l i ≡ true → due_row j l i t r ≡ true
unfolding due_row
due_forced j l i t r h e = rw (lt-ltb t (length j.row_counts) h, e)

pub due_unforced : (j : Outline) (l i t r : ℕ) → t < length j.row_counts → j.forced l i ≡ false → due_row j l i t r ≡ j.filled l i t r
unfolding due_row
due_unforced j l i t r h e = rw (lt-ltb t (length j.row_counts) h, e)

-- ---- a repeat segment: its chunks

pub repeat_steps_lem : (j : Outline) (l i t p : ℕ) → repeat_steps j l i t p ≡ each (chunk_steps l i t) (chunks_of (j.same_chunk l i) (max 1 (j.capacity t)) (repeat_rows j t l p))
unfolding repeat_steps
repeat_steps_lem j l i t p = refl

-- ---- the whole

pub tour_roots : (j : Outline) (h : ℕ) → tour_to j h ≡ each (λ l. visits j h l outside) (drop 0 j.roots)
unfolding tour_to
tour_roots j h = refl
