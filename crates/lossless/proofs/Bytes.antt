-- The bytes of the walk are its due segments, joined; its trace list has their sources; its stops are those of the tour.
use Prim.Native.Nat.{ℕ, ◌+◌}
use mathlib.Core.Path.{◌≡◌, refl, sym, ap, ◌∙◌}
use mathlib.Core.Bool.{Bool}
use mathlib.Core.List.{List, [], ◌∷◌, ◌++◌, append-nil}
use lib.ListN.{length, length-map}
use Rattle.std.specs.Prelude.{Option, None, Some}
use Rattle.format.specs.Spec.{Control}
use Rattle.format.specs.Job.{Job}
use Rattle.format.specs.Ask.{loop_of}
use Rattle.segment.specs.ReadParts.{Due, joined_all}
use Rattle.segment.proofs.FromParts.{joined_append}
use Rattle.nest.specs.Lists.{each}
use Rattle.nest.specs.OfJob.{outline_of}
use Rattle.walk.specs.Tour.{Step, enters, stop, opener, row_segment, fill, chunk, closer, tour, Stop, stop_of, stop_list}
use Rattle.emit.specs.Fold.{Traced, State, start, separators_of, stop_out, row_out, fill_out, chunk_out, opener_out, closer_out, step_out, steps_out}
use Rattle.lossless.specs.Due.{DueSegment, opener_due, row_due, chunk_due, closer_due, step_due, step_counters, steps_due, due_segments, dues_of, sources_of, traced_from, trace_list}
use Rattle.lossless.specs.NothingLost.{walked_out, traced_sources}

pub dues_append : (xs ys : List DueSegment) → dues_of (xs ++ ys) ≡ dues_of xs ++ dues_of ys
dues_append [] ys = refl
dues_append (x ∷ xs) ys = ap (λ (l : List Due). x.due ∷ l) (dues_append xs ys)

sources_append : (xs ys : List DueSegment) → sources_of (xs ++ ys) ≡ sources_of xs ++ sources_of ys
sources_append [] ys = refl
sources_append (x ∷ xs) ys = ap (λ (l : List (Option (ℕ × ℕ))). x.source ∷ l) (sources_append xs ys)

traced_append : (xs ys : List Traced) → traced_sources (xs ++ ys) ≡ traced_sources xs ++ traced_sources ys
traced_append [] ys = refl
traced_append (x ∷ xs) ys = ap (λ (l : List (Option (ℕ × ℕ))). x.row ∷ l) (traced_append xs ys)

-- what each step does to stops, bytes, counters and the trace list
module _ (j : Job) (s : State) where
  opener_so : (l : ℕ) (o : Option Control) → (loop_of j l).control ≡ o
      → ((opener_out j l s).stops ≡ []) × ((opener_out j l s).bytes ≡ joined_all (separators_of j) (dues_of (opener_due j l s.counter))) × ((opener_out j l s).state.counter ≡ step_counters j (opener l) s.counter) × (traced_sources (opener_out j l s).segments ≡ sources_of (opener_due j l s.counter))
  unfolding opener_out opener_due step_counters joined_all
  opener_so l None e = rw e (refl, refl, refl, refl)
  opener_so l (Some c) e = rw e (refl, sym (append-nil _), refl, refl)

  closer_so : (l : ℕ) (b : Bool) (n m : ℕ) (o : Option Control) → (loop_of j l).control ≡ o → (d : Option (List ℕ)) → (loop_of j l).end ≡ d
      → ((closer_out j l b n m s).stops ≡ []) × ((closer_out j l b n m s).bytes ≡ joined_all (separators_of j) (dues_of (closer_due j l b n m s.counter))) × ((closer_out j l b n m s).state.counter ≡ s.counter) × (traced_sources (closer_out j l b n m s).segments ≡ sources_of (closer_due j l b n m s.counter))
  unfolding closer_out closer_due joined_all
  closer_so l b n m None e d q = rw e (refl, refl, refl, refl)
  closer_so l b n m (Some c) e None q = rw (e, q) (refl, refl, refl, refl)
  closer_so l b n m (Some c) e (Some id) q = rw (e, q) (refl, sym (append-nil _), refl, refl)

  one_so : (x : Step) → ((step_out j x s).stops ≡ stop_of x) × ((step_out j x s).bytes ≡ joined_all (separators_of j) (dues_of (step_due j x s.counter))) × ((step_out j x s).state.counter ≡ step_counters j x s.counter) × (traced_sources (step_out j x s).segments ≡ sources_of (step_due j x s.counter))
  unfolding step_out step_due step_counters stop_out row_out fill_out chunk_out row_due chunk_due joined_all
  one_so (enters l) = (refl, refl, refl, refl)
  one_so (stop l t r) = (refl, refl, refl, refl)
  one_so (opener l) = opener_so l (loop_of j l).control refl
  one_so (row_segment l i t r) = (refl, sym (append-nil _), refl, refl)
  one_so (fill l i t k r) = (refl, refl, refl, refl)
  one_so (chunk l i t rs) = (refl, sym (append-nil _), refl, refl)
  one_so (closer l b n m) = closer_so l b n m (loop_of j l).control refl (loop_of j l).end refl

pub step_counters_lem : (j : Job) (x : Step) (s : State) → (step_out j x s).state.counter ≡ step_counters j x s.counter
step_counters_lem j x s = (one_so j s x).2

module _ (j : Job) where
  steps_stops : (xs : List Step) (s : State) → (steps_out j xs s).stops ≡ each stop_of xs
  unfolding steps_out
  steps_stops [] s = refl
  steps_stops (x ∷ xs) s =
      ap (λ (l : List Stop). (step_out j x s).stops ++ l) (steps_stops xs (step_out j x s).state) ∙ ap (λ (l : List Stop). l ++ each stop_of xs) (one_so j s x).0

  steps_bytes : (xs : List Step) (s : State) → (steps_out j xs s).bytes ≡ joined_all (separators_of j) (dues_of (steps_due j xs s.counter))
  unfolding steps_out steps_due joined_all
  steps_bytes [] s = refl
  steps_bytes (x ∷ xs) s =
      let t = (step_out j x s).state in
      let a = (one_so j s x).1 in
      let b = steps_bytes xs t in
      let c = (one_so j s x).2 in
      let d = joined_append (separators_of j) (dues_of (step_due j x s.counter)) (dues_of (steps_due j xs (step_counters j x s.counter))) in
      let e = dues_append (step_due j x s.counter) (steps_due j xs (step_counters j x s.counter)) in
      rw (a, b, c, e, d)

  steps_sources : (xs : List Step) (s : State) → traced_sources (steps_out j xs s).segments ≡ sources_of (steps_due j xs s.counter)
  unfolding steps_out steps_due
  steps_sources [] s = refl
  steps_sources (x ∷ xs) s =
      let t = (step_out j x s).state in
      let a = (one_so j s x).3 in
      let b = steps_sources xs t in
      let c = (one_so j s x).2 in
      let d = traced_append (step_out j x s).segments (steps_out j xs t).segments in
      let e = sources_append (step_due j x s.counter) (steps_due j xs (step_counters j x s.counter)) in
      rw (d, a, b, c, e)

pub walked_bytes : (j : Job) → (walked_out j).bytes ≡ joined_all (separators_of j) (dues_of (due_segments j))
unfolding due_segments
walked_bytes j = steps_bytes j (tour (outline_of j)) (start j)

pub walked_stops : (j : Job) → (walked_out j).stops ≡ stop_list (tour (outline_of j))
unfolding stop_list
walked_stops j = steps_stops j (tour (outline_of j)) (start j)

pub walked_sources : (j : Job) → traced_sources (walked_out j).segments ≡ sources_of (due_segments j)
unfolding due_segments
walked_sources j = steps_sources j (tour (outline_of j)) (start j)

from_sources : (n : ℕ) (ds : List DueSegment) → traced_sources (traced_from n ds) ≡ sources_of ds
unfolding traced_from
from_sources n [] = refl
from_sources n (d ∷ ds) = ap (λ (l : List (Option (ℕ × ℕ))). d.source ∷ l) (from_sources (n + d.entries) ds)

pub trace_sources : (j : Job) → traced_sources (trace_list j) ≡ sources_of (due_segments j)
trace_sources j = from_sources 0 (due_segments j)

-- as many as the walk finishes
pub trace_length : (j : Job) → length (trace_list j) ≡ length (walked_out j).segments
trace_length j =
    sym (length-map (trace_list j) (λ (x : Traced). x.row))
    ∙ ap length (trace_sources j ∙ sym (walked_sources j))
    ∙ length-map (walked_out j).segments (λ (x : Traced). x.row)
