-- Trace entries are counted up to the cap on the way; no job comes near it, so that the trace list has their sums.
use Prim.Native.Nat.{ℕ, zero, suc, ◌+◌, ◌*◌, ◌≤◌, ◌<◌, min}
use mathlib.Core.Path.{◌≡◌, refl, sym, ap, ◌∙◌, subst}
use mathlib.Core.Bool.{Bool, true, false}
use mathlib.Core.List.{List, [], ◌∷◌, ◌++◌, append-nil}
use native.Mathlib.Omega.{arith}
use native.Mathlib.Nat.{mul-le-mul_right, add-zero}
use Rattle.std.specs.Prelude.{Option, None, Some}
use lib.ListN.{length, length-append, get_or}
use lib.Dec.{eqb, leb}
use Rattle.lent.specs.Fit.{cap, more}
use Rattle.codec.specs.Codec.{Bytes}
use Rattle.format.specs.Spec.{Control, ElementDef}
use Rattle.format.specs.Plan.{Value, from_column, from_group, from_code, ElementPlan}
use Rattle.format.specs.Job.{Job}
use Rattle.format.specs.Ask.{loop_of, segment_def, depth_of, identifier_of, planned_of, step_of}
use Rattle.format.specs.Sections.{job_of}
use Rattle.format.specs.Passed.{Passed}
use Rattle.texts.specs.Number.{count_text}
use Rattle.segment.specs.Parts.{pick}
use Rattle.nest.specs.Lists.{on, sum}
use Rattle.nest.specs.OfJob.{outline_of}
use Rattle.nest.proofs.Sums.{sum_append}
use Rattle.walk.specs.Tour.{Step, enters, stop, opener, row_segment, fill, chunk, closer, writes, row_steps, chunk_steps, segments_in, tour, census}
use Rattle.emit.specs.Puts.{Put, nothing, put_text, put_all, put_cell, row_value, chunk_value, row_put, chunk_put, chunk_puts}
use Rattle.emit.specs.Envelope.{Given, Sourced, source_at, put_sourced, put_element, control_in, opener_put, counted, closer_put}
use Rattle.emit.specs.Fold as F
use Rattle.emit.specs.Fold.{stop_out, row_out, fill_out, chunk_out, opener_out, closer_out, step_out, steps_out}
use Rattle.emit.proofs.TookLaws.{steps_append, steps_one}
use Rattle.lossless.specs.Due.{DueSegment, opener_due, row_due, chunk_due, closer_due, step_due, steps_due, due_segments, traced_from, trace_list}
use Rattle.lossless.specs.NothingLost.{walked_out}
use Rattle.lossless.proofs.Bytes.{step_counters_lem}
use Rattle.lossless.proofs.Found.{due_append, due_one, chunk_steps_lem}
use Rattle.lossless.proofs.Tours.{Closed, tour_so}
use Rattle.writer.proofs.FewFindings.{texted}
use Rattle.writer.proofs.BytesSections.{planned_short}
use Rattle.writer.proofs.Lengths.{segment_short}
use Rattle.writer.proofs.Sizes.{row_texted, written_few, texted_few}

-- ---- how many a segment has

all_few : {A : Type 0} (f : A → Put) → ((x : A) → (f x).entries ≤ 1) → (xs : List A) → (put_all f xs).entries ≤ length xs
all_few f h [] = omega arith
all_few f h (x ∷ xs) = omega (arith, h x, all_few f h xs)

cell_one : (j : Job) (id : List ℕ) (e : ℕ) (c : Option ℕ) (t column r : ℕ) → (put_cell j id e c t column r).entries ≤ 1
unfolding put_cell
cell_one j id e c t column r = omega arith

row_one : (j : Job) (id : List ℕ) (t r : ℕ) (p : ElementPlan) (v : Value) → (row_value j id t r p v).entries ≤ 1
row_one j id t r p (from_column c) = cell_one j id p.element p.component t c r
row_one j id t r p (from_group c) = omega arith
row_one j id t r p (from_code code) = omega arith

first_one : (b : Bool) (p : Put) → p.entries ≤ 1 → (pick b p nothing).entries ≤ 1
first_one true p h = h
first_one false p h = omega arith

chunk_one : (j : Job) (id : List ℕ) (t step k r : ℕ) (p : ElementPlan) (v : Value) → (chunk_value j id t step k r p v).entries ≤ 1
chunk_one j id t step k r p (from_column c) = first_one (eqb k 0) (put_cell j id p.element p.component t c r) (cell_one j id p.element p.component t c r)
chunk_one j id t step k r p (from_group c) = cell_one j id (p.element + k * step) p.component t c r
chunk_one j id t step k r p (from_code code) = first_one (eqb k 0) (put_text p.element p.component code) (omega arith)

sourced_one : (j : Job) (trigger : List ℕ) (position : ℕ) (d : ElementDef) (f : Option ℕ) (g : Given) → (put_sourced j trigger position d (record { field = f; given = g })).entries ≤ 1
sourced_one j trigger position d None g = omega arith
sourced_one j trigger position d (Some f) g = omega arith

element_one : (j : Job) (trigger : List ℕ) (depth own : ℕ) (control : List ℕ) (x : ℕ × ElementDef) → (put_element j trigger depth own control x).entries ≤ 1
unfolding put_element
element_one j trigger depth own control x = go (source_at j trigger depth own control x.0 x.1)
  where
    go : (s : Option Sourced) → (on s (put_sourced j trigger x.0 x.1) nothing).entries ≤ 1
    go None = omega arith
    go (Some s) = sourced_one j trigger x.0 x.1 s.field s.given

row_entries : (j : Job) (id : List ℕ) (t r : ℕ) (xs : List ElementPlan) → (row_put j id t r xs).entries ≤ length xs
unfolding row_put
row_entries j id t r xs = all_few (λ (p : ElementPlan). row_value j id t r p p.value) (λ p. row_one j id t r p p.value) xs

fill_entries : (j : Job) (id : List ℕ) (t step k r : ℕ) (xs : List ElementPlan) → (chunk_put j id t step k r xs).entries ≤ length xs
unfolding chunk_put
fill_entries j id t step k r xs = all_few (λ (p : ElementPlan). chunk_value j id t step k r p p.value) (λ p. chunk_one j id t step k r p p.value) xs

opener_entries : (j : Job) (l : ℕ) (c : Control) (number : ℕ) → (opener_put j l c number).entries ≤ length (on (segment_def j (loop_of j l).trigger) (λ d. d) [])
unfolding opener_put
opener_entries j l c number =
    all_few (put_element j (loop_of j l).trigger (depth_of j l) c.opener (control_in j l c number)) (element_one j (loop_of j l).trigger (depth_of j l) c.opener (control_in j l c number)) (on (segment_def j (loop_of j l).trigger) (λ d. d) [])

closer_entries : (c : Control) (control : List ℕ) (count : ℕ) → (closer_put c control count).entries ≤ 2
unfolding closer_put
closer_entries c control count = go (leb c.count c.closer)
  where
    told : (e : ℕ) (text : List ℕ) (b : Bool) → pick b 1 0 ≤ 1
    told e text true = omega arith
    told e text false = omega arith

    one : (p : ℕ × List ℕ) → (counted c.closer p.0 p.1).entries ≤ 1
    one p = told p.0 p.1 (eqb p.0 c.closer)

    go : (b : Bool) → (pick b (put_all (λ (p : ℕ × List ℕ). counted c.closer p.0 p.1) ((c.count, count_text count) ∷ (c.closer, control) ∷ [])) (put_all (λ (p : ℕ × List ℕ). counted c.closer p.0 p.1) ((c.closer, control) ∷ (c.count, count_text count) ∷ []))).entries ≤ 2
    go true = all_few (λ (p : ℕ × List ℕ). counted c.closer p.0 p.1) one ((c.count, count_text count) ∷ (c.closer, control) ∷ [])
    go false = all_few (λ (p : ℕ × List ℕ). counted c.closer p.0 p.1) one ((c.closer, control) ∷ (c.count, count_text count) ∷ [])

-- ---- how many due segments have

abbrev total : List DueSegment → ℕ
total = sum (λ (d : DueSegment). d.entries)

traced_append : (n : ℕ) (xs ys : List DueSegment) → traced_from n (xs ++ ys) ≡ traced_from n xs ++ traced_from (n + total xs) ys
unfolding traced_from
traced_append n [] ys = rw add-zero refl
traced_append n (x ∷ xs) ys =
    let e : n + x.entries + total xs ≡ n + (x.entries + total xs) = omega arith in
    ap (λ (l : List F.Traced). record { entry = n; row = x.source } ∷ l) (traced_append (n + x.entries) xs ys ∙ ap (λ k. traced_from (n + x.entries) xs ++ traced_from k ys) e)

-- ---- few, where a planned segment and a definition have E elements at most

module _ (j : Job) (E : ℕ) (planned : (l i : ℕ) → length (planned_of j l i).elements ≤ E) (defined : (id : List ℕ) → length (on (segment_def j id) (λ d. d) []) ≤ E) where
  abbrev Few : List Step → Type 0
  Few xs = (s : F.State) → total (steps_due j xs s.counter) ≤ sum texted xs * E + sum writes xs * 2

  few_one : (x : Step) → ((cs : List ℕ) → total (step_due j x cs) ≤ texted x * E + writes x * 2) → Few (x ∷ [])
  few_one x h s = rw (due_one j x s.counter) (omega (arith, h s.counter))

  few_join : (xs ys : List Step) → Few xs → Few ys → Few (xs ++ ys)
  few_join xs ys f g s =
      let t : F.State = (steps_out j xs s).state in
      rw (due_append j xs ys s, sum_append texted xs ys, sum_append writes xs ys, sum_append (λ (d : DueSegment). d.entries) (steps_due j xs s.counter) (steps_due j ys t.counter))
      (omega (arith, f s, g t))

  few_opener : (l : ℕ) (cs : List ℕ) → total (opener_due j l cs) ≤ 1 * E + 1 * 2
  unfolding opener_due
  few_opener l cs = go (loop_of j l).control refl
    where
      go : (o : Option Control) → (loop_of j l).control ≡ o → total (opener_due j l cs) ≤ 1 * E + 1 * 2
      go None e = rw e (omega arith)
      go (Some c) e = rw e (omega (arith, opener_entries j l c (get_or cs l 0), defined (loop_of j l).trigger))

  few_closer : (l : ℕ) (b : Bool) (n m : ℕ) (cs : List ℕ) → total (closer_due j l b n m cs) ≤ 0 * E + 1 * 2
  unfolding closer_due
  few_closer l b n m cs = go (loop_of j l).control refl (loop_of j l).end refl
    where
      go : (o : Option Control) → (loop_of j l).control ≡ o → (d : Option (List ℕ)) → (loop_of j l).end ≡ d → total (closer_due j l b n m cs) ≤ 0 * E + 1 * 2
      go None e d q = rw e (omega arith)
      go (Some c) e None q = rw (e, q) (omega arith)
      go (Some c) e (Some id) q = rw (e, q) (omega (arith, closer_entries c (pick b (control_in j l c (F.previous (get_or cs l 0))) []) (F.count_of c.counted n m)))

  -- the rows of a chunk, from number k on
  few_rows : (l i t k : ℕ) (rs : List ℕ) → (chunk_puts j (identifier_of j l i) t (step_of j t) k (planned_of j l i).elements rs).entries ≤ sum (λ (r : ℕ). 1) rs * E
  unfolding chunk_puts
  few_rows l i t k [] = omega arith
  few_rows l i t k (r ∷ rs) = omega (arith, fill_entries j (identifier_of j l i) t (step_of j t) k r (planned_of j l i).elements, planned l i, few_rows l i t (k + 1) rs)

  few_chunk : (l i t : ℕ) (rs : List ℕ) → Few (chunk_steps l i t rs)
  unfolding chunk_due
  few_chunk l i t rs s =
      rw (chunk_steps_lem j l i t rs s, sum_append texted (row_steps l i t 0 rs) (chunk l i t rs ∷ []), row_texted l i t 0 rs)
      (omega (arith, few_rows l i t 0 rs))

  few_closed : Closed (outline_of j) Few
  unfolding steps_due step_due row_due
  few_closed = record {
    nothing = λ s. omega arith;
    join = few_join;
    enter = λ l. few_one (enters l) (λ cs. omega arith);
    stopped = λ l t r. few_one (stop l t r) (λ cs. omega arith);
    opens = λ l. few_one (opener l) (few_opener l);
    row = λ l i t r h e q. few_one (row_segment l i t r) (λ cs. omega (arith, row_entries j (identifier_of j l i) t r (planned_of j l i).elements, planned l i));
    filled = λ l i t rs h e q k. few_chunk l i t rs;
    closes = λ l b n m. few_one (closer l b n m) (few_closer l b n m);
  }

  total_few : total (due_segments j) ≤ sum texted (tour (outline_of j)) * E + sum writes (tour (outline_of j)) * 2
  unfolding due_segments
  total_few = tour_so (outline_of j) Few few_closed (F.start j)

-- ---- exact, where the sum stays below the cap

module _ (j : Job) where
  -- from the state s: the segments have the sums, and so does the state
  record Summed (o : F.Out) (ds : List DueSegment) (s : F.State) : Type 0 where
    pub segments : o.segments ≡ traced_from s.entries ds
    pub entries : o.state.entries ≡ s.entries + total ds
    pub begun : o.state.begun ≡ s.entries + total ds

  abbrev Exact : List Step → Type 0
  Exact xs = (s : F.State) → s.begun ≡ s.entries → s.entries + total (steps_due j xs s.counter) < cap → Summed (steps_out j xs s) (steps_due j xs s.counter) s

  abbrev ExactStep : Step → Type 0
  ExactStep x = (s : F.State) → s.begun ≡ s.entries → s.entries + total (step_due j x s.counter) < cap → Summed (step_out j x s) (step_due j x s.counter) s

  exact_one : (x : Step) → ExactStep x → Exact (x ∷ [])
  exact_one x f s e h = rw (steps_one j x s, due_one j x s.counter) (f s e (rw (due_one j x s.counter) at h))

  exact_join : (xs ys : List Step) → Exact xs → Exact ys → Exact (xs ++ ys)
  exact_join xs ys f g s e h =
      let t : F.State = (steps_out j xs s).state in
      let a : List DueSegment = steps_due j xs s.counter in
      let b : List DueSegment = steps_due j ys t.counter in
      let k : total (a ++ b) ≡ total a + total b = sum_append (λ (d : DueSegment). d.entries) a b in
      let h' : s.entries + total (a ++ b) < cap = rw (due_append j xs ys s) at h in
      let p : Summed (steps_out j xs s) a s = f s e (omega (arith, h', k)) in
      let q : Summed (steps_out j ys t) b t = g t (p.begun ∙ sym p.entries) (omega (arith, p.entries, h', k)) in
      rw (steps_append j xs ys s, due_append j xs ys s)
      (record {
        segments = ap (λ (l : List F.Traced). l ++ (steps_out j ys t).segments) p.segments ∙ ap (λ (l : List F.Traced). traced_from s.entries a ++ l) (q.segments ∙ ap (λ n. traced_from n b) p.entries) ∙ sym (traced_append s.entries a b);
        entries = omega (arith, q.entries, p.entries, k);
        begun = omega (arith, q.begun, p.entries, k);
      })

  -- a segment that is finished
  finished : (id : List ℕ) (p : Put) (row : Option (ℕ × ℕ)) (d : DueSegment) (s t : F.State) → t.entries ≡ s.entries → t.begun ≡ s.entries → d.source ≡ row → d.entries ≡ p.entries → s.entries + p.entries < cap
      → Summed (F.segment_out j id p.parts p.findings p.entries row t) (d ∷ []) s
  unfolding traced_from
  finished id p row d s t n b r e h = record {
    segments = rw (b, r) refl;
    entries = omega (arith, h, n, e);
    begun = omega (arith, h, n, e);
  }

  exact_opener : (l : ℕ) → ExactStep (opener l)
  unfolding step_out step_due opener_out opener_due traced_from
  exact_opener l s e = go (loop_of j l).control refl
    where
      go : (o : Option Control) → (loop_of j l).control ≡ o → s.entries + total (opener_due j l s.counter) < cap → Summed (opener_out j l s) (opener_due j l s.counter) s
      go None q = rw q (λ h. record { segments = refl; entries = omega arith; begun = omega (arith, e) })
      go (Some c) q = rw q (λ h. finished (loop_of j l).trigger (opener_put j l c (get_or s.counter l 0)) None _ s (F.counter_up l s) refl e refl refl (omega (arith, h)))

  exact_closer : (l : ℕ) (b : Bool) (n m : ℕ) → ExactStep (closer l b n m)
  unfolding step_out step_due closer_out closer_due traced_from
  exact_closer l b n m s e = go (loop_of j l).control refl (loop_of j l).end refl
    where
      go : (o : Option Control) → (loop_of j l).control ≡ o → (d : Option (List ℕ)) → (loop_of j l).end ≡ d
          → s.entries + total (closer_due j l b n m s.counter) < cap → Summed (closer_out j l b n m s) (closer_due j l b n m s.counter) s
      go None q d z = rw q (λ h. record { segments = refl; entries = omega arith; begun = omega (arith, e) })
      go (Some c) q None z = rw (q, z) (λ h. record { segments = refl; entries = omega arith; begun = omega (arith, e) })
      go (Some c) q (Some id) z = rw (q, z) (λ h.
          finished id (closer_put c (pick b (control_in j l c (F.previous (get_or s.counter l 0))) []) (F.count_of c.counted n m)) None _ s s refl e refl refl (omega (arith, h)))

  exact_row : (l i t r : ℕ) → ExactStep (row_segment l i t r)
  unfolding step_out step_due row_out row_due
  exact_row l i t r s e h = finished (identifier_of j l i) (row_put j (identifier_of j l i) t r (planned_of j l i).elements) (Some (t, r)) _ s s refl e refl refl (omega (arith, h))

  -- the rows of a chunk, from number k on, add theirs, and finish no segment
  record Filling (o : F.Out) (n : ℕ) (s : F.State) : Type 0 where
    pub segments : o.segments ≡ []
    pub entries : o.state.entries ≡ s.entries + n
    pub begun : o.state.begun ≡ s.begun

  rows_fill : (l i t k : ℕ) (rs : List ℕ) (s : F.State) → s.entries + (chunk_puts j (identifier_of j l i) t (step_of j t) k (planned_of j l i).elements rs).entries < cap
      → Filling (steps_out j (row_steps l i t k rs) s) (chunk_puts j (identifier_of j l i) t (step_of j t) k (planned_of j l i).elements rs).entries s
  unfolding row_steps steps_out step_out stop_out fill_out chunk_puts
  rows_fill l i t k [] s h = record { segments = refl; entries = omega arith; begun = refl }
  rows_fill l i t k (r ∷ rs) s h =
      let u : F.State = (step_out j (stop l t r) s).state in
      let v : F.State = (step_out j (fill l i t k r) u).state in
      let n : ℕ = (chunk_put j (identifier_of j l i) t (step_of j t) k r (planned_of j l i).elements).entries in
      let up : suc k ≡ k + 1 = omega arith in
      let added : v.entries ≡ s.entries + n = omega (arith, h) in
      let z = rw (← up) at h in
      let p = rows_fill l i t (suc k) rs v (omega (arith, z, added)) in
      record { segments = p.segments; entries = rw (← up) (omega (arith, p.entries, added)); begun = p.begun }

  exact_chunk : (l i t : ℕ) (rs : List ℕ) → Exact (chunk_steps l i t rs)
  unfolding step_out chunk_out chunk_due traced_from
  exact_chunk l i t rs s e h =
      let rows : List Step = row_steps l i t 0 rs in
      let u : F.State = (steps_out j rows s).state in
      let h' : s.entries + total (chunk_due j l i t rs ∷ []) < cap = rw (chunk_steps_lem j l i t rs s) at h in
      let p = rows_fill l i t 0 rs s (omega (arith, h')) in
      rw (steps_append j rows (chunk l i t rs ∷ []) s, chunk_steps_lem j l i t rs s, steps_one j (chunk l i t rs) u)
      (record {
        segments = rw (p.segments, p.begun, e) refl;
        entries = omega (arith, p.entries, h');
        begun = omega (arith, p.entries, h');
      })

  exact_closed : Closed (outline_of j) Exact
  unfolding steps_out steps_due step_out step_due stop_out traced_from
  exact_closed = record {
    nothing = λ s e h. record { segments = refl; entries = omega arith; begun = omega (arith, e) };
    join = exact_join;
    enter = λ l. exact_one (enters l) (λ s e h. record { segments = refl; entries = omega arith; begun = omega (arith, e) });
    stopped = λ l t r. exact_one (stop l t r) (λ s e h. record { segments = refl; entries = omega arith; begun = omega (arith, e) });
    opens = λ l. exact_one (opener l) (exact_opener l);
    row = λ l i t r h e q. exact_one (row_segment l i t r) (exact_row l i t r);
    filled = λ l i t rs h e q k. exact_chunk l i t rs;
    closes = λ l b n m. exact_one (closer l b n m) (exact_closer l b n m);
  }

  exact_walk : total (due_segments j) < cap → (walked_out j).segments ≡ trace_list j
  unfolding due_segments
  exact_walk h = (tour_so (outline_of j) Exact exact_closed (F.start j) refl (omega (arith, h))).segments

-- ---- no job comes near the cap

-- 65,536 instances, of 13,107 items, of 4,096 rows, of 16,384 elements at most, and two for each segment's closer
pub entries_below : (b : List ℕ) → Bytes b → Passed b → census (outline_of (job_of b)) ≤ 65536 → total (due_segments (job_of b)) < cap
unfolding segments_in
entries_below b bs p h = omega (arith, total_few (job_of b) 16384 (planned_short b bs p) (segment_short b bs p), texted_few b bs p h, written_few b bs p h)

pub entries_exact : (b : List ℕ) → Bytes b → Passed b → census (outline_of (job_of b)) ≤ 65536 → (walked_out (job_of b)).segments ≡ trace_list (job_of b)
entries_exact b bs p h = exact_walk (job_of b) (entries_below b bs p h)
