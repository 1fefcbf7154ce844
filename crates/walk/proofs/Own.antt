-- Where one row stops: in the instance that its own row opens, or that the row it hangs on opens.
use Prim.Native.Nat.{ℕ, ◌+◌, ◌-◌, ◌<◌, max}
use mathlib.Core.Path.{◌≡◌, refl, sym, ap, ◌∙◌, subst}
use mathlib.Core.Bool.{Bool, true, false, cond, ◌&&◌, true≢false}
use mathlib.Core.List.{List, [], ◌∷◌, ◌++◌, foldr}
use native.Mathlib.Omega.{arith}
use Rattle.std.specs.Prelude.{Option, None, Some}
use Rattle.std.proofs.lemmas.Option.{same_Some, none-some}
use Rattle.std.specs.Option.{option_map}
use lib.ListN.{length}
use lib.Dec.{ltb, eqb, leb}
use borrow.Author.Tests.{eq-eqb, ne_eqb, eqb-true, eqb-false, lt-ltb, ltb-true}
use Rattle.nest.specs.Lists.{once, each, on, sum, times, All}
use Rattle.nest.specs.Outline.{Outline, Kind, absent, envelope, implied, rows, inside, groups, Source, of_envelope, of_row, of_repeat, loop_of, plan_of, table_of, kind_of, order_of, segment_of, has_occurrence, row_count, plain, repeated}
use Rattle.nest.specs.Nest.{Anchor, anchor_at, insert, anchors, depth_of, Hook, hook_on, Claim, claim_on, claim_in, settle, hook, hooked, first_row, repeat_rows, Row, row_of}
use Rattle.walk.specs.Instances.{Context, in_row}
use Rattle.walk.proofs.Counts.{row_steps_sum}
use Rattle.walk.specs.Tour.{opener, row_segment, chunk, stop_at, own_row, chunks, chunks_of, row_steps, chunk_steps, repeat_steps, due_row, from_source, segment_steps}
use Rattle.nest.specs.Outline.{item_segments}
use Rattle.walk.specs.Complete.{Complete, ExactlyOne, PlansRepeat}
use Rattle.walk.specs.Stops.{is_stop, stops_of}
use Rattle.nest.proofs.Sums.{sum_append, sum_each, sum_same, sum_zero, sum_one, times_within}
use Rattle.walk.proofs.Paths.{once_true}
use Rattle.nest.proofs.Hanging.{first_exists, plain_not}
use Rattle.walk.proofs.Counting.{own, StopsAt}

-- ---- the chunks of a list are the list

chunks_sum : (f : ℕ → ℕ) (same : ℕ → ℕ → Bool) (room : ℕ) (rest : List ℕ) (head left : ℕ) (rs : List ℕ)
    → sum (sum f) (chunks same room head rs left rest) ≡ sum f rs + sum f rest
unfolding chunks
chunks_sum f same room [] head left rs = refl
chunks_sum f same room (r ∷ more) head left rs =
    go (ltb 0 left && same head r) (chunks_sum f same room more head (left - 1) (rs ++ (r ∷ []))) (chunks_sum f same room more r (room - 1) (r ∷ []))
  where
    go : (b : Bool) → sum (sum f) (chunks same room head (rs ++ (r ∷ [])) (left - 1) more) ≡ sum f (rs ++ (r ∷ [])) + sum f more
        → sum (sum f) (chunks same room r (r ∷ []) (room - 1) more) ≡ (f r + 0) + sum f more
        → sum (sum f) (cond b (chunks same room head (rs ++ (r ∷ [])) (left - 1) more) (rs ∷ chunks same room r (r ∷ []) (room - 1) more)) ≡ sum f rs + (f r + sum f more)
    go true on apart = omega (arith, on, sum_append f rs (r ∷ []))
    go false on apart = omega (arith, apart)

pub chunks_all : (f : ℕ → ℕ) (same : ℕ → ℕ → Bool) (room : ℕ) (xs : List ℕ) → sum (sum f) (chunks_of same room xs) ≡ sum f xs
chunks_all f same room [] = refl
chunks_all f same room (r ∷ more) = chunks_sum f same room more r (room - 1) (r ∷ []) ∙ omega arith

-- ---- a planned segment's stops

module _ (j : Outline) (t r : ℕ) (exists : r < row_count j t) where
  repeat_stops : (l i v o : ℕ) → stops_of t r (repeat_steps j l i v o) ≡ sum (λ x. once (eqb v t && eqb x r)) (repeat_rows j v l o)
  unfolding repeat_steps
  repeat_stops l i v o =
      sum_each (is_stop t r) (chunk_steps l i v) (chunks_of (j.same_chunk l i) (max 1 (j.capacity v)) (repeat_rows j v l o))
      ∙ sum_same _ _ (chunks_of (j.same_chunk l i) (max 1 (j.capacity v)) (repeat_rows j v l o)) one
      ∙ chunks_all (λ x. once (eqb v t && eqb x r)) (j.same_chunk l i) (max 1 (j.capacity v)) (repeat_rows j v l o)
    where
      one : (xs : List ℕ) → stops_of t r (chunk_steps l i v xs) ≡ sum (λ x. once (eqb v t && eqb x r)) xs
      one xs = omega (arith, sum_append (is_stop t r) (row_steps l i v 0 xs) (chunk l i v xs ∷ []), row_steps_sum (is_stop t r) (λ l i u k o. refl) l i v 0 xs)

  repeat_here : (l i o : ℕ) → stops_of t r (repeat_steps j l i t o) ≡ once (hooked (hook j t r) l o)
  unfolding repeat_rows
  repeat_here l i o = repeat_stops l i t o ∙ rw (eq-eqb t t refl) (times_within (λ x. hooked (hook j t x) l o) (row_count j t) 0 r (omega arith) (omega arith))

  repeat_other : (l i v o : ℕ) → (v ≡ t → ⊥) → stops_of t r (repeat_steps j l i v o) ≡ 0
  repeat_other l i v o d = repeat_stops l i v o ∙ sum_zero _ (repeat_rows j v l o) (λ x. ap (λ b. once (b && eqb x r)) (ne_eqb v t d))

  -- all of a segment's stops are of its repeat table
  segment_zero : (l i : ℕ) (c : Context) → ((o : ℕ) → (segment_of j l i).source ≡ of_repeat t → hooked (hook j t r) l o ≡ false) → stops_of t r (segment_steps j l c i) ≡ 0
  unfolding segment_steps
  segment_zero l i c z = go (ltb i (length (plan_of j l).segments))
    where
      repeats : (v : ℕ) → (segment_of j l i).source ≡ of_repeat v → (o : ℕ) → stops_of t r (repeat_steps j l i v o) ≡ 0
      repeats v e o = same (eqb v t) refl
        where
          same : (b : Bool) → eqb v t ≡ b → stops_of t r (repeat_steps j l i v o) ≡ 0
          same true q =
              let v-t : v ≡ t = eqb-true v t q in
              subst (λ y. stops_of t r (repeat_steps j l i y o) ≡ 0) (sym v-t) (repeat_here l i o ∙ ap once (z o (e ∙ ap of_repeat v-t)))
          same false q = repeat_other l i v o (eqb-false v t q)

      owned : (v : ℕ) → (segment_of j l i).source ≡ of_repeat v → (x : Option Row) → stops_of t r (on x (λ p. repeat_steps j l i v p.row) []) ≡ 0
      owned v e None = refl
      owned v e (Some p) = repeats v e p.row

      fits : (v : ℕ) → (segment_of j l i).source ≡ of_repeat v → (b : Bool) → stops_of t r (cond b (on (own_row (kind_of j l) c) (λ p. repeat_steps j l i v p.row) []) []) ≡ 0
      fits v e true = owned v e (own_row (kind_of j l) c)
      fits v e false = refl

      choose : (b : Bool) → stops_of t r (cond b (opener l ∷ []) []) ≡ 0
      choose true = refl
      choose false = refl

      row_due_lem : (v o : ℕ) (b : Bool) → stops_of t r (cond b (row_segment l i v o ∷ []) []) ≡ 0
      row_due_lem v o true = refl
      row_due_lem v o false = refl

      row_given : (v : ℕ) (x : Option ℕ) → stops_of t r (on x (λ o. cond (has_occurrence j l i && due_row j l i v o) (row_segment l i v o ∷ []) []) []) ≡ 0
      row_given v None = refl
      row_given v (Some o) = row_due_lem v o (has_occurrence j l i && due_row j l i v o)

      by_source : (s : Source) → (segment_of j l i).source ≡ s → stops_of t r (from_source j l i c s) ≡ 0
      by_source of_envelope e = choose (loop_of j l).controlled
      by_source (of_row v) e = row_given v (c.row v)
      by_source (of_repeat v) e = fits v e (has_occurrence j l i)

      go : (b : Bool) → stops_of t r (cond b (from_source j l i c (segment_of j l i).source) []) ≡ 0
      go true = by_source (segment_of j l i).source refl
      go false = refl

  segment_here : (l i : ℕ) (c : Context) (p : Row) → PlansRepeat j l t i → has_occurrence j l i ≡ true → own_row (kind_of j l) c ≡ Some p
      → stops_of t r (segment_steps j l c i) ≡ once (hooked (hook j t r) l p.row)
  unfolding segment_steps
  segment_here l i c p plans fits own =
      rw (lt-ltb i (length (plan_of j l).segments) plans.planned, plans.of_table)
      (rw (fits, own) (repeat_here l i p.row))

-- ---- the stop of a `Rows` instance

stop_zero : (t r l : ℕ) (k : Kind) (c : Context) → (k ≡ rows t → ⊥) → stops_of t r (stop_at l (own_row k c)) ≡ 0
stop_zero t r l absent c d = refl
stop_zero t r l envelope c d = refl
stop_zero t r l implied c d = refl
stop_zero t r l (inside v) c d = refl
stop_zero t r l (groups v) c d = refl
stop_zero t r l (rows v) c d = go (c.row v)
  where
    go : (x : Option ℕ) → stops_of t r (stop_at l (option_map (row_of v) x)) ≡ 0
    go None = refl
    go (Some p) = ap (λ b. once (b && eqb p r) + 0) (ne_eqb v t (λ z. d (ap rows z)))

pub own_row_lem : (k : Kind) (v : ℕ) (c : Context) (p : ℕ) → k ≡ rows v → own_row k (in_row v c p) ≡ Some (row_of v p)
own_row_lem k v c p e = rw e (rw (eq-eqb v v refl))

-- ---- a row of a table without repeat segment stops in its row loop

hook_plain : (j : Outline) (t r : ℕ) → plain j t ≡ true → hook j t r ≡ None
unfolding hook
hook_plain j t r e = rw (plain_not j t e)

pub stops_plain : (j : Outline) (C : Complete j) (t r : ℕ) (p : plain j t ≡ true) → r < row_count j t → StopsAt j t r (C.row_loop t p).the t r
unfolding own
stops_plain j C t r p h = record {
  is_rows = L.has;
  elsewhere = λ l c d. omega (arith, stop_zero t r l (kind_of j l) c (λ e. d (L.only l e)), segments l c);
  there = λ c q. omega (arith, segments L.the (in_row t c q), mine c q);
}
  where
    L : ExactlyOne (λ l. kind_of j l ≡ rows t)
    L = C.row_loop t p

    segments : (l : ℕ) (c : Context) → sum (λ i. stops_of t r (segment_steps j l c i)) (item_segments (order_of j l)) ≡ 0
    segments l c = sum_zero _ (item_segments (order_of j l)) (λ i. segment_zero j t r h l i c (λ o e. rw (hook_plain j t r p)))

    mine : (c : Context) (q : ℕ) → stops_of t r (stop_at L.the (own_row (kind_of j L.the) (in_row t c q))) ≡ once (eqb q r)
    mine c q = rw (own_row_lem (kind_of j L.the) t c q L.has) (rw (eq-eqb t t refl) (omega arith))

-- ---- a repeat row stops in the instance of the anchor that nest picks

-- an anchor is a loop of the table's list that has rows
abbrev Good : Outline → ℕ → Anchor → Type 0
Good j t a = (kind_of j a.loop ≡ rows a.table) × (0 < times a.loop (table_of j t).loops)

good_insert : (j : Outline) (t : ℕ) (a : Anchor) (bs : List Anchor) → Good j t a → All (Good j t) bs → All (Good j t) (insert j a bs)
good_insert j t a [] g h = (g, tt)
good_insert j t a (b ∷ bs) g h = go (leb (depth_of j b.loop) (depth_of j a.loop)) (good_insert j t a bs g h.1)
  where
    go : (s : Bool) → All (Good j t) (insert j a bs) → All (Good j t) (cond s (a ∷ b ∷ bs) (b ∷ insert j a bs))
    go true more = (g, h)
    go false more = (h.0, more)

good_sorted : (j : Outline) (t : ℕ) (xs : List Anchor) → All (Good j t) xs → All (Good j t) (foldr (insert j) [] xs)
good_sorted j t [] h = tt
good_sorted j t (a ∷ more) h = good_insert j t a (foldr (insert j) [] more) h.0 (good_sorted j t more h.1)

good_each : (j : Outline) (t : ℕ) (ls : List ℕ) → ((l : ℕ) → 0 < times l ls → 0 < times l (table_of j t).loops) → All (Good j t) (each (λ l. anchor_at l (kind_of j l)) ls)
good_each j t [] h = tt
good_each j t (l ∷ ls) h = go (kind_of j l) refl (good_each j t ls (λ m q. h m (omega arith)))
  where
    here : 0 < times l (table_of j t).loops
    here = h l (omega (arith, ap once (eq-eqb l l refl)))

    go : (k : Kind) → kind_of j l ≡ k → All (Good j t) (each (λ l. anchor_at l (kind_of j l)) ls) → All (Good j t) (anchor_at l k ++ each (λ l. anchor_at l (kind_of j l)) ls)
    go absent e more = more
    go envelope e more = more
    go implied e more = more
    go (inside v) e more = more
    go (groups v) e more = more
    go (rows v) e more = ((e, here), more)

good_anchors : (j : Outline) (t : ℕ) → All (Good j t) (anchors j t)
unfolding anchors
good_anchors j t = good_sorted j t (each (λ l. anchor_at l (kind_of j l)) (table_of j t).loops) (good_each j t (table_of j t).loops (λ l h. h))

pub record HookGood (j : Outline) (t : ℕ) (k : Hook) : Type 0 where
  pub is_rows : kind_of j k.loop ≡ rows k.table
  pub in_list : 0 < times k.loop (table_of j t).loops
  pub exists : k.row < row_count j k.table

claimed : (j : Outline) (t r : ℕ) (k : Claim) (xs : List Anchor) → All (Good j t) xs → claim_in j t r xs ≡ Some k → Good j t (record { loop = k.loop; table = k.table })
unfolding claim_in
claimed j t r k [] g e = absurd (none-some k e)
claimed j t r k (a ∷ more) g e = go (j.reference t a.table r) refl (claimed j t r k more g.1)
  where
    go : (x : Option ℕ) → j.reference t a.table r ≡ x → (claim_in j t r more ≡ Some k → Good j t (record { loop = k.loop; table = k.table })) → Good j t (record { loop = k.loop; table = k.table })
    go None q later = later (rw q at e)
    go (Some v) q later = subst (λ (k : Claim). Good j t (record { loop = k.loop; table = k.table })) (same_Some (claim_on a v) k (rw q at e)) g.0

pub hook_good : (j : Outline) (t r : ℕ) (k : Hook) → repeated j t ≡ true → hook j t r ≡ Some k → HookGood j t k
unfolding hook
hook_good j t r k p e = go (claim_in j t r (anchors j t)) refl (rw p at e)
  where
    found : (m : Claim) → claim_in j t r (anchors j t) ≡ Some m → (x : Option ℕ) → first_row j m.table m.value ≡ x → option_map (hook_on m) x ≡ Some k → HookGood j t k
    found m q None f z = absurd (none-some k z)
    found m q (Some o) f z =
        let g : Good j t (record { loop = m.loop; table = m.table }) = claimed j t r m (anchors j t) (good_anchors j t) q in
        subst (HookGood j t) (same_Some (hook_on m o) k z) (record { is_rows = g.0; in_list = g.1; exists = first_exists j m.table m.value o f })

    go : (x : Option Claim) → claim_in j t r (anchors j t) ≡ x → on x (settle j) None ≡ Some k → HookGood j t k
    go None q z = absurd (none-some k z)
    go (Some m) q z = found m q (first_row j m.table m.value) refl z

module _ (j : Outline) (C : Complete j) (t r : ℕ) (p : repeated j t ≡ true) (h : r < row_count j t) where
  occurring : (l i : ℕ) → (segment_of j l i).occurrence < (loop_of j l).occurrences → has_occurrence j l i ≡ true
  unfolding has_occurrence
  occurring l i h = lt-ltb (segment_of j l i).occurrence (loop_of j l).occurrences h

  not_rows_of : (l : ℕ) → kind_of j l ≡ rows t → ⊥
  not_rows_of l e = true≢false (sym p ∙ plain_not j t (C.rows_plain l t e))

  -- it stops nowhere else
  hooked_elsewhere : (k : Hook) (l o : ℕ) → hook j t r ≡ Some k → (l ≡ k.loop → ⊥) → hooked (hook j t r) l o ≡ false
  hooked_elsewhere k l o e d = rw e (rw (ne_eqb l k.loop d))

  pub stops_hooked : (k : Hook) → hook j t r ≡ Some k → StopsAt j t r k.loop k.table k.row
  unfolding own
  stops_hooked k e = record {
    is_rows = G.is_rows;
    elsewhere = λ l c d. omega (arith, stop_zero t r l (kind_of j l) c (not_rows_of l), sum_zero _ (item_segments (order_of j l)) (λ i. segment_zero j t r h l i c (λ o q. hooked_elsewhere k l o e d)));
    there = λ c q. omega (arith, stop_zero t r k.loop (kind_of j k.loop) (in_row k.table c q) (not_rows_of k.loop), segments c q);
  }
    where
      G : HookGood j t k
      G = hook_good j t r k p e

      One : ExactlyOne (PlansRepeat j k.loop t)
      One = C.repeat_planned k.loop t (record { repeat_table = p; in_list = G.in_list; owner = k.table; owner_rows = G.is_rows })

      order_once : times One.the (item_segments (order_of j k.loop)) ≡ 1
      order_once = C.order_segments k.loop One.the ∙ ap once (lt-ltb One.the (length (plan_of j k.loop).segments) One.has.planned)

      other : (c : Context) (i : ℕ) → (i ≡ One.the → ⊥) → 0 < times i (item_segments (order_of j k.loop)) → stops_of t r (segment_steps j k.loop c i) ≡ 0
      other c i d q =
          let there : i < length (plan_of j k.loop).segments = ltb-true i (length (plan_of j k.loop).segments) (once_true _ (omega (arith, C.order_segments k.loop i))) in
          segment_zero j t r h k.loop i c (λ o s. absurd (d (One.only i (record { planned = there; of_table = s }))))

      at_hook : (q : ℕ) → once (hooked (hook j t r) k.loop q) ≡ once (eqb q k.row)
      at_hook q = rw e (rw (eq-eqb k.loop k.loop refl))

      segments : (c : Context) (q : ℕ) → sum (λ i. stops_of t r (segment_steps j k.loop (in_row k.table c q) i)) (item_segments (order_of j k.loop)) ≡ once (eqb q k.row)
      segments c q =
          sum_one (λ i. stops_of t r (segment_steps j k.loop (in_row k.table c q) i)) One.the (item_segments (order_of j k.loop)) order_once (other (in_row k.table c q))
          ∙ segment_here j t r h k.loop One.the (in_row k.table c q) (row_of k.table q) One.has (occurring k.loop One.the (C.occurrences k.loop One.the One.has.planned))
          (own_row_lem (kind_of j k.loop) k.table c q G.is_rows)
          ∙ at_hook q

  -- without a hook it stops nowhere at all
  pub own_nowhere : hook j t r ≡ None → (l : ℕ) (c : Context) → own j t r l c ≡ 0
  unfolding own
  own_nowhere e l c =
      omega (arith, stop_zero t r l (kind_of j l) c (not_rows_of l), sum_zero _ (item_segments (order_of j l)) (λ i. segment_zero j t r h l i c (λ o q. rw e)))
