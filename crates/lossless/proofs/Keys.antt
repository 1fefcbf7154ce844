-- What a complete plan and a job that passed say of a planned segment and of a segment of the spec.
use Prim.Native.Nat.{ℕ, suc, ◌<◌}
use mathlib.Core.Path.{◌≡◌, sym, ap, ◌∙◌}
use mathlib.Core.Logic.{◌≢◌}
use mathlib.Core.Bool.{Bool, true, false, cond}
use mathlib.Core.List.{List, [], ◌∷◌}
use native.Mathlib.Omega.{arith}
use Rattle.std.specs.Prelude.{Option, None, Some}
use lib.ListN.{length, get_or}
use borrow.Author.Tests.{ltb-true}
use Rattle.codec.specs.Forms.{bytes_c}
use Rattle.codec.proofs.Field.{is_list, is_pair}
use Rattle.codec.specs.Maps.{rises_from}
use Rattle.codec.proofs.Maps.{is_num_map, is_bytes_map}
use Rattle.format.specs.Spec.{Loop, no_loop, Control, SegmentDef, element_c, segment_c}
use Rattle.format.specs.Plan.{Source, from_envelope, from_row, from_repeat, ElementPlan, SegmentPlan, no_segment_plan, LoopPlan, no_loop_plan}
use Rattle.format.specs.Job.{Job}
use Rattle.format.specs.Sections.{job_of, plan_start}
use Rattle.format.proofs.Decoding.{is_read}
use Rattle.format.proofs.Fields.{is_spec}
use Rattle.format.specs.Passed.{Passed}
use Rattle.format.specs.Refusal.{unfit}
use Rattle.format.specs.Ask.{loop_of, plan_of, planned_of, identifier_of, segment_def, found, same_bytes}
use Rattle.nest.specs.Lists.{All, on}
use Rattle.nest.specs.Outline as O
use Rattle.nest.specs.Outline.{of_row, of_repeat}
use Rattle.nest.specs.OfJob.{outline_of, source_in}
use Rattle.nest.proofs.Bridge.{segment_is, occurrences_is}
use Rattle.complete.specs.Complete.{Segments, SegmentFits, Clear, CodeClear, RuleFits, IfThere, CompletePlan}
use Rattle.lossless.proofs.Words.{all_get}
use Rattle.lossless.proofs.Marks.{occurrence_clear}

-- ---- the segments of the spec

-- what is so of all values of a map is so of the one that is found
found_so : {K B : Type 0} (P : B → Type 0) (is : K → Bool) (xs : List (K × B)) → All (λ (x : K × B). P x.1) xs → IfThere P (found is xs)
found_so P is [] h = tt
found_so {K} {B} P is (x ∷ xs) h = go (is x.0) (found_so P is xs h.1)
  where
    go : (b : Bool) → IfThere P (found is xs) → IfThere P (cond b (Some x.1) (found is xs))
    go true ih = h.0
    go false ih = ih

pub segment_so : (P : SegmentDef → Type 0) (j : Job) (id : List ℕ) → P [] → All (λ (x : List ℕ × SegmentDef). P x.1) j.spec.segments → P (on (segment_def j id) (λ d. d) [])
unfolding segment_def
segment_so P j id nil h = go (segment_def j id) (found_so P (same_bytes id) j.spec.segments h)
  where
    go : (o : Option SegmentDef) → IfThere P o → P (on o (λ d. d) [])
    go None k = nil
    go (Some d) k = k

all_at : {A : Type 0} (P : A → Type 0) (xs : List A) → ((i : ℕ) (d : A) → i < length xs → P (get_or xs i d)) → All P xs
all_at P [] h = tt
all_at P (x ∷ xs) h = (h 0 x (omega arith), all_at P xs (λ i d q. h (suc i) d (omega arith)))

-- the keys of the maps rise
pub keys_rise : (b : List ℕ) → Passed b → All (λ (x : List ℕ × SegmentDef). rises_from 0 x.1 ≡ true) (job_of b).spec.segments
keys_rise b p =
    let s = is_spec b (plan_start b) 0 (job_of b).spec (is_read _ b 0 (plan_start b) (job_of b).spec p.read.spec) in
    let m = is_list _ b _ _ _ (is_bytes_map segment_c b _ _ _ s.segments).0 in
    all_at _ (job_of b).spec.segments (λ i d q. (is_num_map element_c b _ _ _ (is_pair bytes_c segment_c b _ _ _ (m.item i d q)).1).1)

-- ---- planned segments

module _ (j : Job) where
  planned_so : (P : SegmentPlan → Type 0) → P no_segment_plan → Segments P j → (l i : ℕ) → P (planned_of j l i)
  unfolding planned_of plan_of
  planned_so P nil h l i = all_get P (plan_of j l).segments no_segment_plan (all_get (λ (p : LoopPlan). All P p.segments) j.plan no_loop_plan h tt l) nil i

  pub fits_at : CompletePlan j → (l i : ℕ) → SegmentFits j (planned_of j l i)
  fits_at C = planned_so (SegmentFits j) (record { starts = tt; placed = tt; unmixed = tt }) C.places.segments

  pub codes_at : CompletePlan j → (l i : ℕ) → All (λ (e : ElementPlan). CodeClear j e.value) (planned_of j l i).elements
  codes_at C = planned_so (λ (p : SegmentPlan). All (λ (e : ElementPlan). CodeClear j e.value) p.elements) tt C.places.codes.planned

  pub rule_at : CompletePlan j → (l : ℕ) (c : Control) → (loop_of j l).control ≡ Some c → RuleFits c
  unfolding loop_of
  rule_at C l c e = rw e at (all_get (λ (v : Loop). IfThere RuleFits v.control) j.spec.loops no_loop C.places.rules tt l)

  -- ---- in the outline

  row_source : (s : Source) (t : ℕ) → source_in s ≡ of_row t → s ≡ from_row t
  row_source from_envelope t e = absurd (let z : ◌≡◌ {A = ℕ} 0 1 = cc in omega arith)
  row_source (from_row u) t e = let z : u ≡ t = cc in rw z
  row_source (from_repeat u) t e = absurd (let z : ◌≡◌ {A = ℕ} 0 1 = cc in omega arith)

  repeat_source : (s : Source) (t : ℕ) → source_in s ≡ of_repeat t → s ≡ from_repeat t
  repeat_source from_envelope t e = absurd (let z : ◌≡◌ {A = ℕ} 0 1 = cc in omega arith)
  repeat_source (from_row u) t e = absurd (let z : ◌≡◌ {A = ℕ} 0 1 = cc in omega arith)
  repeat_source (from_repeat u) t e = let z : u ≡ t = cc in rw z

  pub of_row_lem : (l i t : ℕ) → (O.segment_of (outline_of j) l i).source ≡ of_row t → (planned_of j l i).source ≡ from_row t
  of_row_lem l i t e = row_source (planned_of j l i).source t (sym (ap (λ (p : O.Planned). p.source) (segment_is j l i)) ∙ e)

  pub of_repeat_lem : (l i t : ℕ) → (O.segment_of (outline_of j) l i).source ≡ of_repeat t → (planned_of j l i).source ≡ from_repeat t
  of_repeat_lem l i t e = repeat_source (planned_of j l i).source t (sym (ap (λ (p : O.Planned). p.source) (segment_is j l i)) ∙ e)

  pub id_clear : unfit j ≡ false → (l i : ℕ) → O.has_occurrence (outline_of j) l i ≡ true → (identifier_of j l i ≢ []) × Clear j (identifier_of j l i)
  unfolding O.has_occurrence identifier_of
  id_clear fit l i e =
      let k = ltb-true (O.segment_of (outline_of j) l i).occurrence (O.loop_of (outline_of j) l).occurrences e in
      occurrence_clear j fit l (planned_of j l i).occurrence (omega (arith, k, occurrences_is j l, ap (λ (p : O.Planned). p.occurrence) (segment_is j l i)))
