-- The document of a job that passed, with 65,536 instances at most, has fewer than 2^63 bytes. With L, P and X the bytes of layout, plan and data:
-- an order has L / 5 items at most, a planned segment P / 10 elements, and one element of a repeat segment gives (X + 383)² / 48 bytes at most over all
-- rows, codes aside. Codes, identifier and element separators are 66,024 a row at most. So all repeat segments together have no more than
-- 65,536 · (L · P · (X + 383)² / 2400 + L / 5 · 4096 · 66,024) bytes; with L + P + X ≤ 65,512 that is below 8.3 · 10^18. Every other segment has
-- 432,000,000 bytes at most, and there are 65,536 · 13,103 at most: 0.4 · 10^18.
use Prim.Native.Nat.{ℕ, suc, ◌+◌, ◌*◌, ◌/◌, ◌^◌, ◌≤◌, ◌<◌}
use mathlib.Core.Path.{◌≡◌, refl}
use mathlib.Core.List.{List, [], ◌∷◌}
use native.Mathlib.Omega.{arith}
use native.Mathlib.Nat.{mul-add, mul-le-mul}
use Rattle.std.specs.Prelude.{None}
use lib.ListN.{length, get_or, length-append}
use Rattle.lent.specs.Fit.{cap}
use Rattle.codec.specs.Codec.{Bytes, le_c, map_c, dep_c}
use Rattle.format.specs.Plan.{Value, from_column, from_group, from_code, ElementPlan}
use Rattle.format.specs.Job.{Job}
use Rattle.format.specs.Sections.{job_of}
use Rattle.format.proofs.RoundTrip.{encode_read}
use Rattle.format.specs.Passed.{Passed}
use Rattle.format.proofs.Passed.{few}
use Rattle.format.specs.Envelope.{Envelope, envelope_c}
use Rattle.format.specs.Ask.{loop_of, planned_of, data_of}
use Rattle.nest.specs.Lists.{sum, All}
use Rattle.nest.specs.Outline.{Outline, order_of}
use Rattle.nest.specs.OfJob.{outline_of}
use Rattle.nest.proofs.Placing.{rows_few}
use Rattle.nest.proofs.Sums.{sum_same}
use Rattle.walk.specs.Tour.{Step, enters, stop, opener, row_segment, fill, chunk, closer, segments_in, tour, census}
use Rattle.walk.proofs.Bounds.{repeat_few, Counted, tour_bound}
use Rattle.emit.specs.Fold as F
use Rattle.emit.specs.Fold.{stop_out, row_out, fill_out, chunk_out, step_out, steps_out}
use Rattle.lossless.specs.NothingLost.{walked_out}
use Rattle.writer.proofs.Lengths.{whole, order_within, segment_few}
use Rattle.writer.proofs.BytesSums.{sum_more, sum_less, sum_both}
use Rattle.writer.proofs.BytesProduct.{quota, product}
use Rattle.writer.proofs.BytesColumns.{cell_weigh}
use Rattle.writer.proofs.BytesSections.{spec_bytes, plan_bytes, layout_bytes, data_bytes, code_in, planned_within, data-within, identifier_within}
use Rattle.emit.proofs.ScaleLaws.{scales_low}
use Rattle.writer.proofs.BytesLimits.{planned_placed, step_small}
use Rattle.writer.proofs.BytesSegments.{given, given_by, row_bytes, chunk_bytes}
use Rattle.writer.proofs.BytesRepeats.{grouped, repeat_total, repeat_lone}
use Rattle.writer.proofs.BytesClosers.{Fine, tour_fine}
use Rattle.writer.proofs.BytesState.{Counting, step_counting, start_counting}
use Rattle.writer.proofs.BytesGiven.{envelope_bytes}
use Rattle.writer.proofs.BytesEnvelope.{opener_bytes, closer_bytes}

-- the segments that are written once
abbrev lone : Step → ℕ
lone (enters l) = 0
lone (stop l t r) = 0
lone (opener l) = 1
lone (row_segment l i t r) = 1
lone (fill l i t k r) = 0
lone (chunk l i t rs) = 0
lone (closer l opened children count) = 1

control_fits : (e : Envelope) → envelope_c.Fits e → e.control_number < 2 ^ 64
unfolding envelope_c map_c dep_c le_c
control_fits e h = h.1.1.1.1.1.1.1.1.1.0

module _ (b : List ℕ) (bs : Bytes b) (p : Passed b) where
  abbrev j : Job
  j = job_of b

  sections : spec_bytes j + plan_bytes j + layout_bytes j + envelope_bytes j + data_bytes j + 24 ≤ 65536
  sections = whole b bs p

  -- ---- one step

  given_most : (t r : ℕ) (v : Value) → given j t r v ≤ (data_bytes j + 303) + code_in v
  given_most t r (from_column c) = omega (arith, cell_weigh (get_or (data_of j t).columns c None) r, data-within j t c None)
  given_most t r (from_group c) = omega (arith, cell_weigh (get_or (data_of j t).columns c None) r, data-within j t c None)
  given_most t r (from_code code) = omega arith

  row_few : (l i t r : ℕ) (s : F.State) → length (row_out j l i t r s).bytes ≤ 432000000
  row_few l i t r s =
      let es : List ElementPlan = (planned_of j l i).elements in
      let code : ElementPlan → ℕ = λ (e : ElementPlan). code_in e.value in
      let m : length es ≤ 6551 = omega (arith, planned_within j l i, sum_more 10 code es, sections) in
      let n : data_bytes j + 303 ≤ 65815 = omega (arith, sections) in
      omega (
        arith,
        row_bytes j (scales_low j p.fit) (planned_placed j p.limits) (step_small j p.limits) l i t r s,
        sum_less (given_by j t r) (λ (e : ElementPlan). (data_bytes j + 303) + code e) (λ e. given_most t r e.value) es,
        sum_more (data_bytes j + 303) code es,
        sum_more 10 code es,
        planned_within j l i,
        mul-le-mul m n,
        identifier_within j l i,
        sections,
      )

  chunk_few : (l i t : ℕ) (rs : List ℕ) (s : F.State) → length (chunk_out j l i t rs s).bytes ≤ grouped j (chunk l i t rs)
  chunk_few l i t rs s =
      let es : List ElementPlan = (planned_of j l i).elements in
      omega (
        arith,
        chunk_bytes j (scales_low j p.fit) (planned_placed j p.limits) (step_small j p.limits) l i t rs s,
        identifier_within j l i,
        sum_more 255 (λ r. sum (given_by j t r) es) rs,
        sum_same (λ r. sum (given_by j t r) es + 255) (λ r. 255 + sum (given_by j t r) es) rs (λ r. omega arith),
      )

  abbrev weight : Step → ℕ
  weight x = lone x * 432000000 + grouped j x

  step_few : (x : Step) (s : F.State) → Fine 99999999999999999999 x → Counting s.counter → length (step_out j x s).bytes ≤ weight x
  unfolding step_out stop_out fill_out
  step_few (enters l) s f c = omega arith
  step_few (stop l t r) s f c = omega arith
  step_few (opener l) s f c = omega (arith, opener_bytes j p.limits l s (c l) (omega (arith, sections)) (omega (arith, sections)) (segment_few b bs p (loop_of j l).trigger))
  step_few (row_segment l i t r) s f c = omega (arith, row_few l i t r s)
  step_few (fill l i t k r) s f c = omega arith
  step_few (chunk l i t rs) s f c = omega (arith, chunk_few l i t rs s)
  step_few (closer l o n m) s f c = omega (arith, closer_bytes j p.limits l o n m s (omega (arith, f.0)) (omega (arith, f.1)) (omega (arith, sections)))

  steps_few : (xs : List Step) (s : F.State) → All (Fine 99999999999999999999) xs → Counting s.counter → length (steps_out j xs s).bytes ≤ sum weight xs
  unfolding steps_out
  steps_few [] s f c = omega arith
  steps_few (x ∷ xs) s f c =
      let a : F.Out = step_out j x s in
      omega (arith, length-append a.bytes (steps_out j xs a.state).bytes, step_few x s f.0 c, steps_few xs a.state f.1 (step_counting j x s c))

  -- ---- the walk

  abbrev o : Outline
  o = outline_of j

  abbrev W : ℕ
  W = layout_bytes j / 5

  abbrev R : ℕ
  R = plan_bytes j / 10 * quota (data_bytes j) + 4096 * 66024

  order_few : (l : ℕ) → length (order_of o l) ≤ W
  order_few l = omega (arith, order_within j l)

  lone_counted : Counted o 0 lone
  lone_counted = record {
    entering = λ l. refl;
    opening = λ l. omega arith;
    row = λ l i t r. omega arith;
    ends = λ l t r n m b. omega arith;
    repeats = λ l i t q. repeat_lone o lone (λ l t r. refl) (λ l i t k r. refl) (λ l i t rs. refl) l i t q;
  }

  grouped_counted : Counted o R (grouped j)
  grouped_counted = record {
    entering = λ l. refl;
    opening = λ l. omega arith;
    row = λ l i t r. omega arith;
    ends = λ l t r n m b. omega arith;
    repeats = λ l i t q. repeat_total j l i t q (omega (arith, repeat_few o t l q, rows_few j t (few j p.limits).rows)) (omega (arith, sections));
  }

  module _ (h : census o ≤ 65536) (n : segments_in (tour o) ≤ 10000000000000) where
    control_small : j.envelope.control_number < 2 ^ 64
    control_small = control_fits j.envelope (encode_read b j bs p.read).1.envelope

    main : W * suc R + 1 ≤ 126350000000000
    main =
        let E : ℕ = plan_bytes j / 10 in
        let Q : ℕ = quota (data_bytes j) in
        let Y : ℕ = data_bytes j + 383 in
        let small : W ≤ 13102 = omega (arith, sections) in
        let top : W * (E * Q) ≤ 122750000000000 = product W E Q Y (layout_bytes j) (plan_bytes j) (omega arith) (omega arith) (omega arith) (omega (arith, sections)) in
        let e : suc R ≡ E * Q + (4096 * 66024 + 1) = omega arith in
        rw e (omega (arith, top, small, mul-add W (E * Q) (4096 * 66024 + 1)))

    pub bytes_below : length (walked_out j).bytes < cap
    bytes_below =
        let small : W * 1 + 1 ≤ 13103 = omega (arith, sections) in
        omega (
          arith,
          steps_few (tour o) (F.start j) (tour_fine o 99999999999999999999 (omega (arith, h, n))) (start_counting j.envelope.control_number 32 control_small),
          sum_both lone (grouped j) 432000000 (tour o),
          tour_bound o 0 W lone lone_counted order_few,
          tour_bound o R W (grouped j) grouped_counted order_few,
          mul-le-mul h main,
          mul-le-mul h small,
        )
