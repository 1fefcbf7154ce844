-- No count of a job that passes 1 to 6 comes near the cap.
use Prim.Native.Nat.{ℕ, suc, ◌+◌, ◌*◌, ◌≤◌, ◌<◌, max}
use mathlib.Core.Path.{◌≡◌, refl, ◌∙◌}
use mathlib.Core.List.{List, [], ◌∷◌, ◌++◌}
use native.Mathlib.Omega.{arith}
use native.Mathlib.Nat.{mul-one, mul-le-mul_right}
use lib.ListN.{length, length-append}
use Rattle.lent.specs.Fit.{cap}
use Rattle.lent.proofs.Fit.{wide}
use Rattle.codec.specs.Codec.{Bytes}
use Rattle.format.specs.Job.{Job}
use Rattle.format.specs.Sections.{job_of}
use Rattle.format.specs.Passed.{Passed}
use Rattle.format.proofs.Passed.{few}
use Rattle.nest.specs.Lists.{sum}
use Rattle.nest.specs.NestFindings.{nest_findings}
use Rattle.nest.specs.Outline.{Outline, row_count}
use Rattle.nest.specs.Nest.{repeat_rows}
use Rattle.nest.specs.OfJob.{outline_of}
use Rattle.nest.proofs.Sums.{sum_append, sum_each, sum_same}
use Rattle.nest.proofs.NestLaws.{rows_before}
use Rattle.nest.proofs.Placing.{rows_few}
use Rattle.nest.proofs.Sizes.{findings_bound}
use Rattle.nest.proofs.Stored.{rows_of_all_lem}
use Rattle.walk.specs.Tour.{Step, enters, stop, opener, row_segment, fill, chunk, closer, writes, halts, chunks_of, row_steps, chunk_steps, repeat_steps, tour, census, segments_in, stops_in}
use Rattle.walk.proofs.Own.{chunks_all}
use Rattle.walk.proofs.Bounds.{repeat_few, Counted, tour_bound, segments_bound, stops_bound}
use Rattle.emit.specs.Fold as F
use Rattle.emit.specs.Fold.{stop_out, row_out, fill_out, chunk_out, step_out, steps_out}
use Rattle.lossless.specs.NothingLost.{walked_out}
use Rattle.lossless.proofs.Bytes.{trace_length}
use Rattle.writer.specs.Result.{result_of}
use Rattle.writer.proofs.StepKinds.{opener_is, closer_is}
use Rattle.writer.proofs.FewFindings.{texted, step_findings}
use Rattle.writer.proofs.BytesSums.{sum_each_time, sum_both}
use Rattle.writer.proofs.BytesSections.{planned_short}
use Rattle.writer.proofs.BytesTotal.{bytes_below}
use Rattle.writer.proofs.Lengths.{order_short, ancestors_short, segment_short}

pub record Small (j : Job) : Type 0 where
  pub bytes : length (result_of j).bytes < cap
  pub segments : length (result_of j).segments * 3 < cap
  pub findings : length (result_of j).findings * 10 < wide
  pub stops : length (result_of j).stops * 3 < cap
  pub steps : segments_in (tour (outline_of j)) < cap

-- ---- steps

-- what a list of steps gives at most, by what each gives
module _ {A : Type 0} (given : F.Out → List A) (joins : (a b : F.Out) → given (F.and_then a (λ t. b)) ≡ given a ++ given b) (none_yet : (s : F.State) → given (F.quiet s) ≡ []) (count : Step → ℕ) (j : Job)
    (one : (x : Step) (s : F.State) → length (given (step_out j x s)) ≤ count x) where
  steps_give : (xs : List Step) (s : F.State) → length (given (steps_out j xs s)) ≤ sum count xs
  unfolding steps_out
  steps_give [] s = rw (none_yet s) (omega arith)
  steps_give (x ∷ xs) s =
      let a : F.Out = step_out j x s in
      let b : F.Out = steps_out j xs a.state in
      rw (joins a b) (omega (arith, length-append (given a) (given b), one x s, steps_give xs a.state))

step_segments : (j : Job) (x : Step) (s : F.State) → length (step_out j x s).segments ≤ writes x
unfolding step_out stop_out row_out fill_out chunk_out
step_segments j (enters l) s = omega arith
step_segments j (stop l t r) s = omega arith
step_segments j (opener l) s = opener_is j l s (λ o. length o.segments ≤ 1) (λ p. Unit {0}) (λ id p t q. omega arith) (omega arith) (λ c. tt)
step_segments j (row_segment l i t r) s = omega arith
step_segments j (fill l i t k r) s = omega arith
step_segments j (chunk l i t rs) s = omega arith
step_segments j (closer l b n m) s = closer_is j l s (λ o. length o.segments ≤ 1) (λ p. Unit {0}) (λ id p t q. omega arith) (omega arith) b n m (λ c x y. tt)

step_stops : (j : Job) (x : Step) (s : F.State) → length (step_out j x s).stops ≤ halts x
unfolding step_out stop_out row_out fill_out chunk_out
step_stops j (enters l) s = omega arith
step_stops j (stop l t r) s = omega arith
step_stops j (opener l) s = opener_is j l s (λ o. length o.stops ≤ 0) (λ p. Unit {0}) (λ id p t q. omega arith) (omega arith) (λ c. tt)
step_stops j (row_segment l i t r) s = omega arith
step_stops j (fill l i t k r) s = omega arith
step_stops j (chunk l i t rs) s = omega arith
step_stops j (closer l b n m) s = closer_is j l s (λ o. length o.stops ≤ 0) (λ p. Unit {0}) (λ id p t q. omega arith) (omega arith) b n m (λ c x y. tt)

-- ---- steps with planned elements

pub row_texted : (l i t k : ℕ) (rs : List ℕ) → sum texted (row_steps l i t k rs) ≡ sum (λ x. 1) rs
unfolding row_steps
row_texted l i t k [] = refl
row_texted l i t k (r ∷ rs) = omega (arith, row_texted l i t (suc k) rs)

-- one for each row of a repeat segment
repeat_texted : (o : Outline) (l i t p : ℕ) → sum texted (repeat_steps o l i t p) ≡ length (repeat_rows o t l p)
unfolding repeat_steps
repeat_texted o l i t p =
    let cs : List (List ℕ) = chunks_of (o.same_chunk l i) (max 1 (o.capacity t)) (repeat_rows o t l p) in
    sum_each texted (chunk_steps l i t) cs ∙ sum_same _ (sum (λ x. 1)) cs one ∙ chunks_all (λ x. 1) (o.same_chunk l i) (max 1 (o.capacity t)) (repeat_rows o t l p) ∙ sum_each_time 1 (repeat_rows o t l p) ∙ mul-one (length (repeat_rows o t l p))
  where
    one : (rs : List ℕ) → sum texted (chunk_steps l i t rs) ≡ sum (λ x. 1) rs
    one rs = omega (arith, sum_append texted (row_steps l i t 0 rs) (chunk l i t rs ∷ []), row_texted l i t 0 rs)

texted_counted : (o : Outline) (R : ℕ) → ((t : ℕ) → row_count o t ≤ R) → Counted o R texted
texted_counted o R few = record {
  entering = λ l. refl;
  opening = λ l. omega arith;
  row = λ l i t r. omega arith;
  ends = λ l t r n m b. omega arith;
  repeats = λ l i t p. omega (arith, repeat_texted o l i t p, repeat_few o t l p, few t);
}

-- ---- the whole walk

module _ (b : List ℕ) (bs : Bytes b) (p : Passed b) (h : census (outline_of (job_of b)) ≤ 65536) where
  abbrev j : Job
  j = job_of b

  -- 65,536 instances, each of 13,107 items at most, each of 4,096 rows at most
  abbrev most : ℕ
  most = 65536 * (13107 * 4097 + 1)

  pub written_few : segments_in (tour (outline_of j)) ≤ most
  written_few = omega (arith, segments_bound (outline_of j) 4096 13107 (λ t. rows_few j t (few j p.limits).rows) (order_short b bs p), mul-le-mul_right (13107 * 4097 + 1) h)

  stopped_few : stops_in (tour (outline_of j)) ≤ most
  stopped_few = omega (arith, stops_bound (outline_of j) 4096 13107 (λ t. rows_few j t (few j p.limits).rows) (order_short b bs p), mul-le-mul_right (13107 * 4097 + 1) h)

  segments_few : length (walked_out j).segments ≤ most
  unfolding segments_in
  segments_few = omega (arith, steps_give (λ o. o.segments) (λ a c. refl) (λ s. refl) writes j (step_segments j) (tour (outline_of j)) (F.start j), written_few)

  stops_few : length (walked_out j).stops ≤ most
  unfolding stops_in
  stops_few = omega (arith, steps_give (λ o. o.stops) (λ a c. refl) (λ s. refl) halts j (step_stops j) (tour (outline_of j)) (F.start j), stopped_few)

  -- for each row one for its key, and one or as many as its parent's table has ancestors
  nest_few : length (nest_findings (outline_of j)) ≤ 4096 * 16386
  nest_few = omega (arith, findings_bound (outline_of j) 16384 (ancestors_short b bs p), mul-le-mul_right 16386 rows)
    where
      rows : rows_before (outline_of j) (length (outline_of j).row_counts) ≤ 4096
      rows = omega (arith, rows_of_all_lem j, (few j p.limits).rows)

  bytes_few : length (walked_out j).bytes < cap
  bytes_few = bytes_below b bs p h (omega (arith, written_few))

  pub texted_few : sum texted (tour (outline_of j)) ≤ most
  texted_few = omega (arith, tour_bound (outline_of j) 4096 13107 texted (texted_counted (outline_of j) 4096 (λ t. rows_few j t (few j p.limits).rows)) (order_short b bs p), mul-le-mul_right (13107 * 4097 + 1) h)

  findings_few : length (walked_out j).findings ≤ most * 81921
  unfolding stops_in
  findings_few =
      omega (
        arith,
        steps_give (λ o. o.findings) (λ a c. refl) (λ s. refl) (λ x. texted x * 81920 + halts x) j (step_findings j 16384 (planned_short b bs p) (segment_short b bs p)) (tour (outline_of j)) (F.start j),
        sum_both texted halts 81920 (tour (outline_of j)),
        texted_few,
        stopped_few,
      )

  pub small : Small j
  unfolding result_of
  small = record {
    bytes = bytes_few;
    segments = omega (arith, segments_few, trace_length j);
    findings = omega (arith, length-append (nest_findings (outline_of j)) (walked_out j).findings, nest_few, findings_few);
    stops = omega (arith, stops_few);
    steps = omega (arith, written_few);
  }
