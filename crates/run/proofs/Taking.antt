-- Steps as they are taken: the row that opened an instance, its planned segments, its closer.
use Prim.Native.Nat.{ℕ, ◌+◌, ◌≤◌, ◌<◌}
use mathlib.Core.Path.{◌≡◌, refl, sym, ap, ◌∙◌}
use mathlib.Core.Bool.{Bool, true, false, cond, ◌&&◌}
use mathlib.Core.List.{List, [], ◌∷◌}
use native.Mathlib.Omega.{arith}
use native.Mathlib.Numerals.{add-one}
use Rattle.std.specs.Option.{option_map}
use lib.ListN.{length, get_or, set}
use lib.Seq.{set-get_or}
use borrow.Author.Tests.{lt-ltb}
use Rattle.format.specs.Plan as P
use Rattle.format.specs.Job.{Job}
use Rattle.format.specs.Sections.{job_of}
use Rattle.format.specs.Ask as A
use Rattle.format.proofs.Passed.{few}
use Rattle.lent.specs.Fit.{cap}
use Rattle.spec.specs.declared.ids.RowId.{RowId}
use Rattle.spec.specs.declared.ids.TableId.{TableId}
use Rattle.plan.specs.Answers.{source_of}
use Rattle.plan.specs.declared.answers.Source.{Source}
use Rattle.nest.specs.Lists.{on}
use Rattle.nest.specs.Outline as O
use Rattle.nest.specs.Outline.{Outline, row_table, kind_of, loop_of, planned, has_occurrence, row_count}
use Rattle.std.specs.Prelude.{Option, Some, None}
use Rattle.nest.specs.Nest.{Row, row_of, repeat_rows}
use Rattle.nest.specs.OfJob.{outline_of, kind_in, source_in}
use Rattle.nest.specs.Ready.{Ready}
use Rattle.nest.specs.OutlineAt.{outline_at}
use Rattle.nest.proofs.Bridge.{kind_is, planned_is, source_is}
use Rattle.nest.proofs.Placing.{rows_few}
use Rattle.walk.specs.declared.Context.{Context as Kept}
use Rattle.walk.specs.Instances.{Context}
use Rattle.walk.specs.Contexts.{context_by}
use Rattle.walk.specs.Nested.{Sound}
use Rattle.walk.specs.Tour.{Step, opener, row_segment, stop, closer, segments_in, own_row, stop_at, repeat_steps, from_source, segment_steps, opened, close_steps}
use Rattle.walk.proofs.TourLaws.{segment_unplanned}
use Rattle.emit.specs.declared.state.Counts.{Counts}
use Rattle.emit.specs.declared.state.State.{State}
use Rattle.emit.specs.declared.state.Taken.{Taken}
use Rattle.emit.specs.Fold.{steps_out, stop_out, opener_out, row_out, closer_out}
use Rattle.emit.specs.Did.{Mark, state_of, state_with, Did, DidCounts, DidMark, DidNumber, Small, Took}
use Rattle.emit.proofs.DidLaws.{did_mark, did_number}
use Rattle.emit.proofs.TookLaws.{step_stop, step_opener, step_row, step_closer, did_step, took_none, took_one}
use Rattle.repeats.specs.declared.Repeated.{Repeated}
use Rattle.repeats.specs.Added.{Repeats}
use Rattle.repeats.proofs.GoingLaws.{repeat_none}
use Rattle.run.specs.declared.own.Owner.{Owner}
use Rattle.std.proofs.lemmas.Option.{same_Some, none-some}
use Rattle.run.specs.declared.segments.Due.{Due}
use Rattle.run.specs.declared.segments.Due.TheVariants as due
use Rattle.run.specs.Went.{owner_by, kind_steps, Gives}
use Rattle.run.proofs.Reading.{table_small, rows_none}

-- ---- the row that opened an instance

module _ (j : Job) (l : ℕ) (c : Context) (k : P.Instances) (e : k ≡ (A.plan_of j l).instances) (n : Option ℕ) (q : n ≡ row_table (kind_in k)) where
  kind : kind_of (outline_of j) l ≡ kind_in k
  kind = kind_is j l ∙ ap kind_in (sym e)

  pub own_table : (t : ℕ) (x : Option Row) → n ≡ Some t → x ≡ option_map (row_of t) (c.row t) → x ≡ own_row (kind_of (outline_of j) l) c
  own_table t x h i = i ∙ rw (kind, ← q) (rw h refl)

  pub own_tableless : n ≡ None → None ≡ own_row (kind_of (outline_of j) l) c
  own_tableless h = rw (kind, ← q) (rw h refl)

-- the table of an owner, 0 where there is none
pub table_in : Option Owner → ℕ
table_in None = 0
table_in (Some o) = o.table.0

-- its stop, of a state
module _ (j : Job) (l : ℕ) {own : Option Row} (x : Option Owner) (e : owner_by x ≡ own) where
  pub stops_in_lem : {n : Mark} {k : Counts} {d g f f' p p' : List ℕ} (i : ℕ) (s : State) (m : Mark) → i ≡ table_in x → m ≡ get_or s.high i None → i < length s.high
      → DidMark (table_in x) (steps_out j (stop_at l (owner_by x))) m n s.counts k d d g g f f' p p'
      → Did (steps_out j (stop_at l own) (state_of s)) s (state_with (set s.high i n) s.counter k) d d g g f f' p p'
  stops_in_lem i s m q em h y = rw (← e, q) (did_mark (steps_out j (stop_at l (owner_by x))) s (table_in x) m (rw (← q) em) (rw (← q) h) y)

  pub stops_there : {s : State} {m n : Mark} {k : Counts} {d g f f' p p' : List ℕ} (o : Owner) → x ≡ Some o → m ≡ get_or s.high o.table.0 None → o.table.0 < length s.high
      → DidMark o.table.0 (stop_out (outline_of j) l o.table.0 o.row.0) m n s.counts k d d g g f f' p p'
      → Did (steps_out j (stop_at l own) (state_of s)) s (state_with (set s.high o.table.0 n) s.counter k) d d g g f f' p p'
  unfolding table_in
  stops_there {s} {m} o q em h y =
      let t : ℕ = o.table.0 in
      let z : table_in x ≡ t = ap table_in q in
      let w : stop_at l (owner_by x) ≡ stop l t o.row.0 ∷ [] = rw q refl in
      stops_in_lem t s m (sym z) em h (rw (z, w)
      (λ high counter z. did_step j (stop l t o.row.0) (rw (step_stop j l t o.row.0 (state_of (state_with (set high t m) counter s.counts))) (y high counter z))))

  pub stops_not : {s : State} {d g f p : List ℕ} → x ≡ None → Small s → Did (steps_out j (stop_at l own) (state_of s)) s s d d g g f f p p
  stops_not {s} q h = rw (← e) (rw q (took_none j s h).did)

-- its row is there
own_row_there : (o : Outline) (k : O.Kind) (c : Context) (t r : ℕ) → Sound o c → own_row k c ≡ Some (record { table = t; row = r }) → r < row_count o t
own_row_there o k c t r h e = go (row_table k) e
  where
    held : (u : ℕ) (x : Option ℕ) → c.row u ≡ x → option_map (row_of u) x ≡ Some (record { table = t; row = r }) → r < row_count o t
    held u None i q = absurd (none-some _ q)
    held u (Some m) i q =
        let a : row_of u m ≡ record { table = t; row = r } = same_Some _ _ q in
        let b : u ≡ t = ap (λ (w : Row). w.table) a in
        let d : m ≡ r = ap (λ (w : Row). w.row) a in
        h.there t r (rw (← b, ← d) i)

    go : (x : Option ℕ) → on x (λ u. option_map (row_of u) (c.row u)) None ≡ Some (record { table = t; row = r }) → r < row_count o t
    go None q = absurd (none-some _ q)
    go (Some u) q = held u (c.row u) refl q

pub own_known : {b idx : List ℕ} (l : ℕ) (c : Kept) (x : Option Owner) (o : Owner) → Ready b idx → Sound (outline_at b) (context_by c)
    → owner_by x ≡ own_row (kind_of (outline_at b) l) (context_by c) → x ≡ Some o → (o.table.0 < 16) × (o.row.0 < row_count (outline_at b) o.table.0)
own_known {b} l c x o R h e q =
    let y : own_row (kind_of (outline_at b) l) (context_by c) ≡ Some (record { table = o.table.0; row = o.row.0 }) = sym e ∙ ap owner_by q in
    let z = own_row_there (outline_at b) (kind_of (outline_at b) l) (context_by c) o.table.0 o.row.0 h y in
    (table_small b R.passed o.table.0 o.row.0 z, z)

-- a table has at most 4,096 rows
row_few : {b idx : List ℕ} (t r : ℕ) → Ready b idx → r < row_count (outline_at b) t → r < 4096
row_few {b} t r R h = omega (arith, rows_few (job_of b) t (few (job_of b) R.passed.limits).rows, h)

-- ---- what a planned segment gives, by its source

same_repeat : (t : TableId) (r : RowId) (u : TableId) (p : RowId) → due.Repeat t r ≡ due.Repeat u p → (r ≡ p) × (t ≡ u)
same_repeat t r u p z = (cc, cc)

gives_nothing : (o : Outline) (l i : ℕ) (xs : List Step) → xs ≡ [] → Gives o l i xs None
gives_nothing o l i xs e = record { steps = e; few = λ t p q. absurd (none-some _ q) }

module _ (o : Outline) (l i : ℕ) where
  -- the repeat segments of an instance that a row opened
  module _ (t : TableId) (c : Context) (a : Bool) (ea : a ≡ has_occurrence o l i) where
    module _ (x : Option Owner) (e : owner_by x ≡ own_row (kind_of o l) c) where
      gives_repeat : (w : Owner) → a ≡ true → x ≡ Some w → w.row.0 < 4096 → t.0 < 16 → Gives o l i (from_source o l i c (O.of_repeat t.0)) (Some (due.Repeat t w.row))
      gives_repeat w qa q h k = record { steps = rw (← ea, ← e) (rw (qa, q) refl); few = λ u p z. let y = same_repeat t w.row u p (same_Some _ _ z) in rw (← y.0, ← y.1) (h, k) }

pub repeat_there : {b idx : List ℕ} (l i : ℕ) (t : TableId) (c : Kept) (a : Bool) (x : Option Owner) (w : Owner) → Ready b idx → Sound (outline_at b) (context_by c)
    → a ≡ has_occurrence (outline_at b) l i → owner_by x ≡ own_row (kind_of (outline_at b) l) (context_by c) → a ≡ true → x ≡ Some w → t.0 < 16
    → Gives (outline_at b) l i (from_source (outline_at b) l i (context_by c) (O.of_repeat t.0)) (Some (due.Repeat t w.row))
repeat_there {b} l i t c a x w R h ea e qa q k = gives_repeat (outline_at b) l i t (context_by c) a ea x e w qa q (row_few w.table.0 w.row.0 R (own_known l c x w R h e q).1) k

-- a table with a higher number than there are tables has no rows
pub repeat_past : {b idx : List ℕ} (l i : ℕ) (t : TableId) (c : Context) → Ready b idx → 16 ≤ t.0 → Gives (outline_at b) l i (from_source (outline_at b) l i c (O.of_repeat t.0)) None
unfolding repeat_rows
repeat_past {b} l i t c R h = gives_nothing (outline_at b) l i _ (go (has_occurrence (outline_at b) l i) (own_row (kind_of (outline_at b) l) c))
  where
    no_row : row_count (outline_at b) t.0 ≡ 0
    no_row = rows_none b R.passed t.0 h

    go : (a : Bool) (x : Option Row) → cond a (on x (λ p. repeat_steps (outline_at b) l i t.0 p.row) []) [] ≡ []
    go false x = refl
    go true None = refl
    go true (Some p) = repeat_none (outline_at b) l i t.0 p.row (rw no_row refl)

-- a planned segment gives what its source does
module _ (j : Job) (l i : ℕ) (c : Context) (n : ℕ) (e : n ≡ length (A.plan_of j l).segments) where
  module _ (x y : Source) (h : i < n) (q : source_of x ≡ (A.planned_of j l i).source) (z : x ≡ y) where
    by_source : segment_steps (outline_of j) l c i ≡ from_source (outline_of j) l i c (source_in (source_of y))
    unfolding segment_steps
    by_source =
        let b : i < planned (outline_of j) l = omega (arith, planned_is j l, e, h) in
        rw (lt-ltb i (planned (outline_of j) l) b, source_is j l i, ← q, z) refl

    pub gives_source : (d : Option Due) → Gives (outline_of j) l i (from_source (outline_of j) l i c (source_in (source_of y))) d → Gives (outline_of j) l i (segment_steps (outline_of j) l c i) d
    gives_source d w = rw by_source w

  pub unplanned : n ≤ i → Gives (outline_of j) l i (segment_steps (outline_of j) l c i) None
  unplanned h = gives_nothing (outline_of j) l i _ (segment_unplanned (outline_of j) l c i (omega (arith, planned_is j l, e, h)))

-- ---- what is due is taken

module _ (j : Job) {l i : ℕ} {xs : List Step} {x : Option Due} (w : Gives (outline_of j) l i xs x) where
  pub takes_nothing : {s : State} {d g f p : List ℕ} → x ≡ None → Small s → Took j xs s (record { state = s; written = 0 }) d d g g f f p p
  takes_nothing {s = s} q h = rw (w.steps, q) (took_none j s h)

  pub takes : {s : State} {r : Taken} {d d' g g' f f' p p' : List ℕ} (k : Due) → x ≡ Some k → Took j (kind_steps (outline_of j) l i k) s r d d' g g' f f' p p' → Took j xs s r d d' g g' f f' p p'
  takes k q y = rw (w.steps, q) y

  module _ (t : TableId) (p : RowId) (q : x ≡ Some (due.Repeat t p)) where
    pub repeat_few : p.0 < 4096
    repeat_few = (w.few t p q).0

    pub repeat_room : segments_in xs < cap → segments_in (repeat_steps (outline_of j) l i t.0 p.0) < cap
    repeat_room h = rw (w.steps, q) at h

    pub repeat_table_lem : t.0 < 16
    repeat_table_lem = (w.few t p q).1

pub trigger_took : {s : State} {a n : ℕ} {k : Counts} {d d' g g' f f' : List ℕ} (j : Job) (l : ℕ) → a ≡ get_or s.counter l 0 → l < length s.counter
    → ((p : List ℕ) → DidNumber l (opener_out j l) a n s.counts k d d' g g' f f' p p)
    → (p : List ℕ) → Took j (opener l ∷ []) s (record { state = state_with s.high (set s.counter l n) k; written = 1 }) d d' g g' f f' p p
unfolding segments_in
trigger_took {s} {a} j l e h y p = took_one j (opener l) 1 refl (rw (step_opener j l (state_of s)) (did_number (opener_out j l) s l a e h (y p)))

pub row_took : {n : Counts} {d d' g g' f f' : List ℕ} (j : Job) (l i t r : ℕ) (s : State) → ((p : List ℕ) → DidCounts (row_out j l i t r) s.counts n d d' g g' f f' p p)
    → (p : List ℕ) → Took j (row_segment l i t r ∷ []) s (record { state = state_with s.high s.counter n; written = 1 }) d d' g g' f f' p p
unfolding segments_in
row_took j l i t r s y p = took_one j (row_segment l i t r) 1 refl (rw (step_row j l i t r (state_of s)) (y p s.high s.counter))

pub repeat_took : {s : State} {m : Mark} {n : Repeated} {d d' g g' f f' v v' : List ℕ} (j : Job) (xs : List Step) (t : ℕ) → m ≡ get_or s.high t None → t < length s.high
    → Repeats j xs t m s.counts n d d' g g' f f' v v'
    → Took j xs s (record { state = state_with (set s.high t n.mark) s.counter n.counts; written = n.written }) d d' g g' f f' v v'
repeat_took {s} {m} j xs t e h y = record { did = did_mark (steps_out j xs) s t m e h y.did; written = y.written }

-- ---- the closer

module _ (j : Job) (l children count : ℕ) (a : Bool) (ea : a ≡ ((loop_of (outline_of j) l).ends && (loop_of (outline_of j) l).controlled)) where
  pub takes_closer : {s : State} {n : Counts} {number : ℕ} {d d' g g' : List ℕ} (o : Bool) → o ≡ opened (outline_of j) l → a ≡ true → number ≡ get_or s.counter l 0 → l < length s.counter
      → ((f p : List ℕ) → DidNumber l (closer_out j l o children (count + 1)) number number s.counts n d d' g g' f f p p)
      → (body : List Step) (f p : List ℕ) → count ≡ segments_in body
      → Took j (close_steps (outline_of j) l children body) s (record { state = state_with s.high s.counter n; written = 1 }) d d' g g' f f p p
  unfolding close_steps segments_in
  takes_closer {s} {n} {number} {d} {d'} {g} {g'} o eo qa e h x body f p ec =
      let y : Did (closer_out j l o children (count + 1) (state_of s)) s (state_with s.high s.counter n) d d' g g' f f p p = rw (e, set-get_or s.counter l 0) at (did_number (closer_out j l o children (count + 1)) s l number e h (x f p)) in
      rw (← ea, ← eo, ← ec)
      (rw (qa, ← add-one count)
      (took_one j (closer l o children (count + 1)) 1 refl (rw (step_closer j l o children (count + 1) (state_of s)) y)))

  pub leaves_closer : {s : State} {d g : List ℕ} → a ≡ false → Small s
      → (body : List Step) (f p : List ℕ) → count ≡ segments_in body → Took j (close_steps (outline_of j) l children body) s (record { state = s; written = 0 }) d d g g f f p p
  unfolding close_steps
  leaves_closer {s} qa h body f p ec = rw (← ea) (rw qa (took_none j s h))
