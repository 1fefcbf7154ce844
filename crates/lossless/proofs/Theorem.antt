-- Of a job that is not refused and has a complete plan nothing is lost (docs/RULES.md, "Nothing is lost").
use Prim.Native.Nat.{ℕ, ◌≤◌, max}
use mathlib.Core.Path.{◌≡◌, refl, sym, ap, ◌∙◌, subst}
use mathlib.Core.Logic.{◌≢◌}
use mathlib.Core.Bool.{Bool, true, false}
use mathlib.Core.List.{List, [], ◌∷◌, ◌++◌, map}
use Rattle.std.specs.Prelude.{Option, None, Some}
use lib.ListN.{length, get_or}
use Rattle.format.specs.Spec.{Control, ElementDef}
use Rattle.format.specs.Plan.{from_row, from_repeat}
use Rattle.format.specs.Job.{Job}
use Rattle.format.specs.Sections.{job_of}
use Rattle.format.specs.Passed.{Passed}
use Rattle.format.specs.Ask.{loop_of, planned_of, identifier_of, segment_def, depth_of, step_of, capacity_of}
use Rattle.codec.specs.Maps.{rises_from}
use Rattle.segment.specs.Grammar.{Reads}
use Rattle.segment.specs.Parts.{pick}
use Rattle.segment.proofs.Places.{written}
use Rattle.segment.specs.ReadParts.{Free}
use Rattle.segment.proofs.FromParts.{joined_reads, joined_read_as}
use Rattle.segment.proofs.FromParts as Parts
use Rattle.segment.proofs.OneReading.{one_reading}
use Rattle.nest.specs.Lists.{All, some_of, on}
use Rattle.nest.specs.OfJob.{outline_of}
use Rattle.nest.specs.NestFindings.{nest_findings}
use Rattle.nest.proofs.Bridge.{capacity_is}
use Rattle.nest.proofs.Alls.{all_append, all_weaker}
use Rattle.walk.specs.Tour.{Step, enters, stop, opener, row_segment, closer}
use Rattle.emit.proofs.Plain.{Textual}
use Rattle.emit.specs.Envelope.{control_in, opener_put}
use Rattle.emit.specs.Fold.{State, start, separators_of, steps_out, previous, count_of}
use Rattle.complete.specs.Complete.{Clear, MapStarts, CompletePlan}
use Rattle.lossless.specs.Due.{DueSegment, row_cells, chunk_cells, field_texts, opener_due, row_due, chunk_due, closer_due, step_due, steps_due, due_segments, dues_of, trace_list}
use Rattle.lossless.specs.Separators.{holds_separator, segment_holds, separator_held, kinds_of}
use Rattle.lossless.specs.NothingLost.{walked_out, ReadsDue, WalkKept}
use Rattle.lossless.proofs.Words.{none_left, none_append}
use Rattle.lossless.proofs.Bytes.{dues_append, walked_bytes, walked_stops, trace_sources}
use Rattle.lossless.proofs.Tours.{Closed, tour_so}
use Rattle.lossless.proofs.Found.{due_append, due_one, chunk_steps_lem, all_found}
use Rattle.lossless.proofs.Forest.{passed_tree}
use Rattle.lossless.proofs.Conditions.{walk_complete}
use Rattle.lossless.proofs.Stopped.{stops_once}
use Rattle.lossless.proofs.Marks.{apart, trigger_clear, end_clear}
use Rattle.lossless.proofs.Fine.{Fine, match_exactly}
use Rattle.lossless.proofs.Rows.{row_fine}
use Rattle.lossless.proofs.Chunks.{chunk_fine}
use Rattle.lossless.proofs.Openers.{opener_fine, closer_fine, control_textual}
use Rattle.lossless.proofs.Keys.{segment_so, keys_rise, fits_at, codes_at, rule_at, of_row_lem, of_repeat_lem, id_clear}

-- ---- each due segment is read in full

module _ (b : List ℕ) (p : Passed b) (C : CompletePlan (job_of b)) where
  abbrev j : Job
  j = job_of b

  abbrev AllFine : List DueSegment → Type 0
  AllFine ds = some_of (segment_holds j) ds ≡ false → All (Fine (separators_of j)) (dues_of ds)

  opener_done : (l : ℕ) (cs : List ℕ) → AllFine (opener_due j l cs)
  unfolding opener_due opener_put
  opener_done l cs = go (loop_of j l).control refl
    where
      go : (o : Option Control) → (loop_of j l).control ≡ o → AllFine (opener_due j l cs)
      go None e = rw e (λ h. tt)
      go (Some c) e = rw e (λ h. (
        opener_fine j p.fit l c (get_or cs l 0) (on (segment_def j (loop_of j l).trigger) (λ d. d) []) (trigger_clear j p.fit l c e)
            (segment_so (λ d. rises_from 0 d ≡ true) j (loop_of j l).trigger refl (keys_rise b p))
            (segment_so (All MapStarts) j (loop_of j l).trigger tt C.places.maps)
            (segment_so (All (λ (x : ℕ × ElementDef). All (Clear j) x.1.codes)) j (loop_of j l).trigger tt C.places.codes.elements)
            (none_left (some_of (holds_separator j) (field_texts j (loop_of j l).trigger (depth_of j l) c.opener (control_in j l c (get_or cs l 0)) (on (segment_def j (loop_of j l).trigger) (λ d. d) []))) false h),
        tt,
      ))

  closer_done : (l : ℕ) (o : Bool) (n m : ℕ) (cs : List ℕ) → AllFine (closer_due j l o n m cs)
  unfolding closer_due
  closer_done l o n m cs = go (loop_of j l).control refl (loop_of j l).end refl
    where
      control : (c : Control) (o : Bool) → Textual (pick o (control_in j l c (previous (get_or cs l 0))) [])
      control c true = control_textual j l c (previous (get_or cs l 0))
      control c false = tt

      go : (x : Option Control) → (loop_of j l).control ≡ x → (y : Option (List ℕ)) → (loop_of j l).end ≡ y → AllFine (closer_due j l o n m cs)
      go None e y q = rw e (λ h. tt)
      go (Some c) e None q = rw (e, q) (λ h. tt)
      go (Some c) e (Some id) q = rw (e, q) (λ h.
          (closer_fine j p.fit id c (pick o (control_in j l c (previous (get_or cs l 0))) []) (count_of c.counted n m) (end_clear j p.fit l id q) (rule_at j C l c e) (control c o), tt))

  row_done : (l i t r : ℕ) → (planned_of j l i).source ≡ from_row t → (identifier_of j l i ≢ []) × Clear j (identifier_of j l i) → AllFine (row_due j l i t r ∷ [])
  unfolding row_due
  row_done l i t r e n h =
      let f = fits_at j C l i in
      let placed = rw e at f.placed in
      let unmixed = rw e at f.unmixed in
      (row_fine j (identifier_of j l i) t r (planned_of j l i).elements n f.starts placed unmixed (codes_at j C l i) (none_left (some_of (holds_separator j) (row_cells j (identifier_of j l i) t r (planned_of j l i).elements)) false h), tt)

  chunk_done : (l i t : ℕ) (rs : List ℕ) → (planned_of j l i).source ≡ from_repeat t → length rs ≤ max 1 (capacity_of j t) → (identifier_of j l i ≢ []) × Clear j (identifier_of j l i)
      → AllFine (chunk_due j l i t rs ∷ [])
  unfolding chunk_due
  chunk_done l i t rs e k n h =
      let f = fits_at j C l i in
      let placed = rw e at f.placed in
      let unmixed = rw e at f.unmixed in
      (chunk_fine j (identifier_of j l i) t (planned_of j l i).elements rs k n f.starts placed.0 placed.1 unmixed (codes_at j C l i) (none_left (some_of (holds_separator j) (chunk_cells j (identifier_of j l i) t (step_of j t) 0 (planned_of j l i).elements rs)) false h), tt)

  -- ---- the walk

  abbrev Done : List Step → Type 0
  Done xs = (s : State) → AllFine (steps_due j xs s.counter)

  one_done : (x : Step) → ((cs : List ℕ) → AllFine (step_due j x cs)) → Done (x ∷ [])
  one_done x f s = subst AllFine (sym (due_one j x s.counter)) (f s.counter)

  join_done : (xs ys : List Step) → Done xs → Done ys → Done (xs ++ ys)
  join_done xs ys f g s h =
      let t = (steps_out j xs s).state in
      let k = none_append (segment_holds j) (steps_due j xs s.counter) (steps_due j ys t.counter) (ap (some_of (segment_holds j)) (sym (due_append j xs ys s)) ∙ h) in
      subst (All (Fine (separators_of j))) (sym (ap dues_of (due_append j xs ys s) ∙ dues_append (steps_due j xs s.counter) (steps_due j ys t.counter)))
      (all_append _ (dues_of (steps_due j xs s.counter)) (dues_of (steps_due j ys t.counter)) (f s k.0) (g t k.1))

  closed : Closed (outline_of j) Done
  unfolding steps_due step_due
  closed = record {
    nothing = λ s h. tt;
    join = join_done;
    enter = λ l. one_done (enters l) (λ cs h. tt);
    stopped = λ l t r. one_done (stop l t r) (λ cs h. tt);
    opens = λ l. one_done (opener l) (opener_done l);
    row = λ l i t r h e q. one_done (row_segment l i t r) (λ cs. row_done l i t r (of_row_lem j l i t e) (id_clear j p.fit l i q));
    filled = λ l i t rs h e q k s. subst AllFine (sym (chunk_steps_lem j l i t rs s)) (chunk_done l i t rs (of_repeat_lem j l i t e) (rw (← capacity_is j t) k) (id_clear j p.fit l i q));
    closes = λ l o n m. one_done (closer l o n m) (closer_done l o n m);
  }

  all_fine : separator_held j ≡ false → All (Fine (separators_of j)) (dues_of (due_segments j))
  unfolding separator_held due_segments
  all_fine h = tour_so (outline_of j) Done closed (start j) h

  reads_due : separator_held j ≡ false → ReadsDue j (walked_out j).bytes
  reads_due h =
      let s = separators_of j in
      let ds = dues_of (due_segments j) in
      let a = apart j p.fit in
      let fine = all_fine h in
      let free = all_weaker (Fine s) (Free s) ds (λ d f. f.free) fine in
      let xs = map written (map (Parts.plan_of s) ds) in
      let r : Reads s (walked_out j).bytes xs = rw (walked_bytes j) (joined_reads s a ds free) in
      record {
        reading = xs;
        reads = r;
        only = λ ys q. one_reading a.element_segment q r;
        segments = match_exactly s ds fine xs (joined_read_as s a ds free xs (joined_reads s a ds free));
      }

-- the trace list counts the entries by their sum, as long as it may be
pub nothing_lost : (b : List ℕ) → Passed b → WalkKept (job_of b)
nothing_lost b p = record {
  reads_back = λ C h. reads_due b p C (sym (all_found (job_of b)) ∙ h);
  sources = trace_sources (job_of b);
  stops_once = λ C. rw (walked_stops (job_of b)) (stops_once (outline_of (job_of b)) (walk_complete (job_of b) (passed_tree b p) C));
  stop_order = walked_stops (job_of b);
  found = all_found (job_of b);
}
