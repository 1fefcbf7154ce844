-- Each stop of the walk names a row that exists, in its own loop.
use Prim.Native.Nat.{ℕ, zero, suc, ◌-◌, ◌<◌, max}
use mathlib.Core.Path.{◌≡◌, refl, sym}
use mathlib.Core.Logic.{inl, inr}
use mathlib.Core.Bool.{Bool, true, false, cond, ◌&&◌, false≢true}
use mathlib.Core.List.{List, [], ◌∷◌, ◌++◌, map}
use native.Mathlib.Omega.{arith}
use Rattle.std.specs.Prelude.{Option, None, Some}
use lib.ListN.{length, drop}
use lib.Dec.{ltb, eqb}
use borrow.Author.Tests.{eqb-true, ltb-true}
use Rattle.nest.specs.Lists.{each, on, from, part, All, is}
use Rattle.nest.specs.Outline.{Outline, Kind, absent, envelope, implied, rows, inside, groups, Source, of_envelope, of_row, of_repeat, Item, segment, loop, loop_of, plan_of, kind_of, order_of, segment_of, has_occurrence, table_parent, row_count, plain, repeated}
use Rattle.nest.specs.Nest.{Hook, hook, hooked, repeat_rows, referred, held, Row}
use Rattle.walk.specs.Instances.{Context, Run, outside, in_row, rows_in, held_in, cut_to, instances, by_kind}
use Rattle.walk.specs.Tour.{Step, stop, opener, row_segment, chunk, closer, segments_in, stop_at, own_row, chunks, chunks_of, row_steps, chunk_steps, repeat_steps, due_row, from_source, segment_steps, item_steps, body_steps, opened, close_steps, instance_steps, visits, tour_to, tour}
use Rattle.walk.specs.Complete.{Complete}
use Rattle.walk.specs.Stops.{RightStop}
use Rattle.nest.proofs.Alls.{all_append, all_each, all_map, any, all_take, all_drop, all_keep, all_from, all_weaker}
use Rattle.nest.proofs.Hanging.{plain_in}
use Rattle.walk.proofs.TourLaws.{inst_rows}
use Rattle.walk.proofs.Own.{own_row_lem}

-- ---- chunks

chunks_right : (P : ℕ → Type 0) (same : ℕ → ℕ → Bool) (room : ℕ) (rest : List ℕ) (head left : ℕ) (rs : List ℕ) → All P rs → All P rest → All (All P) (chunks same room head rs left rest)
unfolding chunks
chunks_right P same room [] head left rs h k = (h, tt)
chunks_right P same room (r ∷ more) head left rs h k =
    go (ltb 0 left && same head r) (chunks_right P same room more head (left - 1) (rs ++ (r ∷ [])) (all_append P rs (r ∷ []) h (k.0, tt)) k.1) (chunks_right P same room more r (room - 1) (r ∷ []) (k.0, tt) k.1)
  where
    go : (b : Bool) → All (All P) (chunks same room head (rs ++ (r ∷ [])) (left - 1) more) → All (All P) (chunks same room r (r ∷ []) (room - 1) more)
        → All (All P) (cond b (chunks same room head (rs ++ (r ∷ [])) (left - 1) more) (rs ∷ chunks same room r (r ∷ []) (room - 1) more))
    go true on apart = on
    go false on apart = (h, apart)

-- ---- rows in a context exist

rows_exist : (j : Outline) (t : ℕ) (c : Context) → All (λ x. x < row_count j t) (rows_in j t c)
unfolding rows_in held_in held
rows_exist j t c = go (plain j t)
  where
    N : ℕ → Type 0
    N x = x < row_count j t

    of_row_lem : (u : ℕ) (x : Option ℕ) → All N (on x (held j t u) [])
    of_row_lem u None = tt
    of_row_lem u (Some o) = all_weaker _ N (held j t u o) (λ x h. h.0) (all_keep (λ r. is (referred j t r u) o) (row_count j t) (row_count j t) 0 (omega arith))

    holds : (x : Option ℕ) → All N (on x (λ u. on (c.row u) (held j t u) []) (from 0 (row_count j t)))
    holds None = all_from (row_count j t) (row_count j t) 0 (omega arith)
    holds (Some u) = of_row_lem u (c.row u)

    parted : (a b : ℕ) (xs : List ℕ) → All N xs → All N (part a b xs)
    parted a b xs h = all_take N (b - a) (drop a xs) (all_drop N a xs h)

    choose : (xs ys : List ℕ) → All N xs → All N ys → (s : Bool) → All N (cond s xs ys)
    choose xs ys h k true = h
    choose xs ys h k false = k

    cut : (x : Option Run) (xs : List ℕ) → All N xs → All N (cut_to t x xs)
    cut None xs h = h
    cut (Some p) xs h = choose (part p.start p.end xs) xs (parted p.start p.end xs h) h (eqb p.table t)

    go : (s : Bool) → All N (cond s (cut_to t c.run (held_in j t c.row)) [])
    go true = cut c.run (held_in j t c.row) (holds (table_parent j t))
    go false = tt

-- ---- a repeat segment's stops

pub repeated_in : (j : Outline) (t : ℕ) → repeated j t ≡ true → t < length j.tables
unfolding repeated
repeated_in j t e = go (ltb t (length j.tables)) refl
  where
    go : (b : Bool) → ltb t (length j.tables) ≡ b → t < length j.tables
    go true q = ltb-true t (length j.tables) q
    go false q = absurd (false≢true (rw q at e))

hooked_right : (j : Outline) (t l o r : ℕ) → r < row_count j t → hooked (hook j t r) l o ≡ true → RightStop j (stop l t r)
unfolding hook
hooked_right j t l o r h e = go (repeated j t) refl
  where
    both : (a b : Bool) → a && b ≡ true → a ≡ true
    both true b q = refl
    both false b q = absurd (false≢true q)

    at_hook : (x : Option Hook) → hook j t r ≡ x → hooked x l o ≡ true → (k : Hook) × (hook j t r ≡ Some k) × (k.loop ≡ l)
    at_hook None q z = absurd (false≢true z)
    at_hook (Some k) q z = (k, q, sym (eqb-true l k.loop (both (eqb l k.loop) (eqb o k.row) z)))

    go : (b : Bool) → repeated j t ≡ b → RightStop j (stop l t r)
    go true q = (repeated_in j t q, h, inr (at_hook (hook j t r) refl e))
    go false q = absurd (false≢true (rw q at e))

module _ (j : Outline) (C : Complete j) where
  abbrev R : Step → Type 0
  R = RightStop j

  rows_right : (l i t k : ℕ) (xs : List ℕ) → All (λ r. R (stop l t r)) xs → All R (row_steps l i t k xs)
  unfolding row_steps
  rows_right l i t k [] h = tt
  rows_right l i t k (x ∷ xs) h = (h.0, (tt, rows_right l i t (suc k) xs h.1))

  chunk_right : (l i t : ℕ) (xs : List ℕ) → All (λ r. R (stop l t r)) xs → All R (chunk_steps l i t xs)
  chunk_right l i t xs h = all_append R (row_steps l i t 0 xs) (chunk l i t xs ∷ []) (rows_right l i t 0 xs h) (tt, tt)

  repeat_right : (l i t o : ℕ) → All R (repeat_steps j l i t o)
  unfolding repeat_rows repeat_steps
  repeat_right l i t o = all_each R (All P) (chunk_steps l i t) (chunks_of (j.same_chunk l i) (max 1 (j.capacity t)) (repeat_rows j t l o)) (chunk_right l i t) (cut (repeat_rows j t l o) all)
    where
      P : ℕ → Type 0
      P r = R (stop l t r)

      all : All P (repeat_rows j t l o)
      all = all_weaker _ P (repeat_rows j t l o) (λ r h. hooked_right j t l o r h.0 h.1) (all_keep (λ r. hooked (hook j t r) l o) (row_count j t) (row_count j t) 0 (omega arith))

      cut : (xs : List ℕ) → All P xs → All (All P) (chunks_of (j.same_chunk l i) (max 1 (j.capacity t)) xs)
      cut [] h = tt
      cut (x ∷ xs) h = chunks_right P (j.same_chunk l i) (max 1 (j.capacity t)) xs x (max 1 (j.capacity t) - 1) (x ∷ []) (h.0, tt) h.1

  segment_right : (l i : ℕ) (c : Context) → All R (segment_steps j l c i)
  unfolding segment_steps
  segment_right l i c = go (ltb i (length (plan_of j l).segments))
    where
      owned : (t : ℕ) (x : Option Row) → All R (on x (λ p. repeat_steps j l i t p.row) [])
      owned t None = tt
      owned t (Some p) = repeat_right l i t p.row

      fits : (t : ℕ) (b : Bool) → All R (cond b (on (own_row (kind_of j l) c) (λ p. repeat_steps j l i t p.row) []) [])
      fits t true = owned t (own_row (kind_of j l) c)
      fits t false = tt

      choose : (b : Bool) → All R (cond b (opener l ∷ []) [])
      choose true = (tt, tt)
      choose false = tt

      is_due : (t r : ℕ) (b : Bool) → All R (cond b (row_segment l i t r ∷ []) [])
      is_due t r true = (tt, tt)
      is_due t r false = tt

      given : (t : ℕ) (x : Option ℕ) → All R (on x (λ r. cond (has_occurrence j l i && due_row j l i t r) (row_segment l i t r ∷ []) []) [])
      given t None = tt
      given t (Some r) = is_due t r (has_occurrence j l i && due_row j l i t r)

      by_source : (s : Source) → All R (from_source j l i c s)
      by_source of_envelope = choose (loop_of j l).controlled
      by_source (of_row t) = given t (c.row t)
      by_source (of_repeat t) = fits t (has_occurrence j l i)

      go : (b : Bool) → All R (cond b (from_source j l i c (segment_of j l i).source) [])
      go true = by_source (segment_of j l i).source
      go false = tt

  -- ---- an instance, and all of them

  close_right : (l n : ℕ) (body : List Step) → All R (close_steps j l n body)
  unfolding close_steps
  close_right l n body = go ((loop_of j l).ends && (loop_of j l).controlled)
    where
      go : (b : Bool) → All R (cond b (closer l (opened j l) n (suc (segments_in body)) ∷ []) [])
      go true = (tt, tt)
      go false = tt

  instance_right : (inner : ℕ → Context → List Context) (below : ℕ → Context → List Step) → ((k : ℕ) (c : Context) → All R (below k c)) → (l : ℕ) (c : Context) → All R (stop_at l (own_row (kind_of j l) c))
      → All R (instance_steps inner below j l c)
  unfolding instance_steps body_steps
  instance_right inner below b l c h = (tt, all_append R (stop_at l (own_row (kind_of j l) c) ++ each (item_steps below j l c) (order_of j l)) (close_steps j l _ _) (all_append R (stop_at l (own_row (kind_of j l) c)) (each (item_steps below j l c) (order_of j l)) h (all_each R (λ i. Unit {0}) (item_steps below j l c) (order_of j l) item (any (order_of j l)))) (close_right l _ _))
    where
      item : (i : Item) → Unit {0} → All R (item_steps below j l c i)
      item (segment i) u = segment_right l i c
      item (loop k) u = b k c

  pub visits_right : (h l : ℕ) (c : Context) → All R (visits j h l c)
  unfolding visits instances by_kind
  visits_right zero l c = tt
  visits_right (suc h) l c = by_kind_lem (kind_of j l) refl (instance_right (instances j h) (visits j h) (visits_right h) l)
    where
      Inst : Context → Type 0
      Inst d = All R (instance_steps (instances j h) (visits j h) j l d)

      -- a loop without row of its own
      silent : (k : Kind) → kind_of j l ≡ k → ((d : Context) → own_row k d ≡ None) → ((d : Context) → All R (stop_at l (own_row (kind_of j l) d)) → Inst d) → All R (each (instance_steps (instances j h) (visits j h) j l) (instances j (suc h) l c))
      silent k e n inst = all_each R (λ d. Unit {0}) (instance_steps (instances j h) (visits j h) j l) (instances j (suc h) l c) (λ d u. inst d (rw e (rw (n d) tt))) (any (instances j (suc h) l c))

      by_kind_lem : (k : Kind) → kind_of j l ≡ k → ((d : Context) → All R (stop_at l (own_row (kind_of j l) d)) → Inst d) → All R (each (instance_steps (instances j h) (visits j h) j l) (instances j (suc h) l c))
      by_kind_lem absent e inst = silent absent e (λ d. refl) inst
      by_kind_lem envelope e inst = silent envelope e (λ d. refl) inst
      by_kind_lem implied e inst = silent implied e (λ d. refl) inst
      by_kind_lem (inside t) e inst = silent (inside t) e (λ d. refl) inst
      by_kind_lem (groups t) e inst = silent (groups t) e (λ d. refl) inst
      by_kind_lem (rows t) e inst = rw (inst_rows j h l t c e) (all_each R Inst (instance_steps (instances j h) (visits j h) j l) (map (in_row t c) (rows_in j t c)) (λ d i. i) (all_map Inst (λ x. x < row_count j t) (in_row t c) (rows_in j t c) entered (rows_exist j t c)))
        where
          entered : (x : ℕ) → x < row_count j t → Inst (in_row t c x)
          entered x q =
              let p : plain j t ≡ true = C.rows_plain l t e in
              inst (in_row t c x) (rw (own_row_lem (kind_of j l) t c x e) ((plain_in j t p, q, inl (p, e)), tt))

  pub tour_right : All R (tour j)
  unfolding tour_to
  tour_right = all_each R (λ l. Unit {0}) (λ l. visits j (length j.loops) l outside) j.roots (λ l u. visits_right (length j.loops) l outside) (any j.roots)
