-- The job of docs/RULES.md, "The listing", has a complete plan. Its due segments are the three of the listing, and its document reads back as these.
use Prim.Native.Nat.{ℕ}
use mathlib.Core.Path.{◌≡◌, refl, sym, ap, ◌∙◌}
use mathlib.Core.Logic.{inl}
use mathlib.Core.Bool.{true, false}
use mathlib.Core.List.{[], ◌∷◌}
use native.Mathlib.Omega.{arith}
use Rattle.std.specs.Prelude.{None, Some}
use Rattle.std.proofs.lemmas.Option.{none-some}
use Rattle.format.specs.Spec.{Loop, no_loop}
use Rattle.format.specs.Ask as A
use Rattle.format.specs.Job.{no_job}
use Rattle.format.specs.Words.{member_of}
use Rattle.format.specs.Sections.{or_else, job_of}
use Rattle.format.proofs.Passed.{passed}
use Rattle.format.specs.Refusal.{separators}
use Rattle.format.specs.Sample.{listing, listing_bytes}
use Rattle.format.proofs.Sample.{listing_decodes, listing_passes}
use Rattle.segment.specs.Joining.{behind, line_feed, segment_bytes}
use Rattle.segment.specs.Parts.{highest, here, after, all_plain, first_text, element_text, elements_from, elements_of, joined}
use Rattle.segment.specs.ReadParts.{joined_all}
use Rattle.column.specs.Cell as C
use Rattle.texts.specs.Number.{figures, first_from, size, count_text, int_text}
use Rattle.texts.specs.Wide.{signed}
use Rattle.nest.specs.Outline.{loop_of, plan_of, table_of, parent_of, kind_of, order_of, segment_of, has_occurrence, table_parent, row_count, plain, repeated}
use Rattle.nest.specs.Nest.{has_keys, first_row, referred, held}
use Rattle.nest.specs.OfJob.{outline_of, filled_in, columns_in, same_in}
use Rattle.walk.specs.Instances.{held_in, rows_in, by_kind, instances}
use Rattle.walk.specs.Tour.{enters, stop, row_segment, due_row, segment_steps, body_steps, opened, children, close_steps, instance_steps, visits, tour_to, tour}
use Rattle.walk.specs.Complete.{climbs, is_root}
use Rattle.walk.specs.Check.{fits, tree_tests, plan_tests, complete_ok}
use Rattle.walk.proofs.CheckRight.{check_right}
use Rattle.emit.specs.Puts.{cell_text, put_cell, row_put}
use Rattle.complete.specs.Complete.{Entries, CompletePlan}
use Rattle.lossless.specs.Due.{row_due, step_due, step_counters, steps_due, due_segments, dues_of, sources_of}
use Rattle.lossless.specs.Separators.{separator_held}
use Rattle.lossless.specs.NothingLost.{walked_out, ReadsDue}
use Rattle.lossless.specs.Example.{CLP, SVC, at, ExampleReadsBack}
use Rattle.lossless.proofs.Words.{all_get}
use Rattle.lossless.proofs.Bytes.{walked_bytes}
use Rattle.lossless.proofs.Conditions.{plan_complete}
use Rattle.lossless.proofs.Theorem.{nothing_lost}

tests : complete_ok (outline_of listing) ≡ true
unfolding outline_of complete_ok tree_tests plan_tests fits climbs is_root loop_of plan_of table_of parent_of kind_of order_of segment_of table_parent plain repeated
tests = refl

no_control : (l : ℕ) → (A.loop_of listing l).control ≡ None
unfolding A.loop_of
no_control l = all_get (λ (v : Loop). v.control ≡ None) listing.spec.loops no_loop (refl, (refl, tt)) refl l

entries : Entries listing
entries = record { plan = refl; order = refl; forced = refl; group_columns = refl; depth = refl; capacity = refl; data_tables = refl }

pub complete : CompletePlan listing
complete = plan_complete listing ((check_right (outline_of listing)).0 tests) entries (record {
  segments = (
    (record { starts = (record { element = omega arith; component = tt }, tt); placed = (tt, tt); unmixed = ((λ k n p q e z. refl, tt), tt) }, tt),
    ((record { starts = (record { element = omega arith; component = tt }, (record { element = omega arith; component = tt }, tt)); placed = ((inl (omega arith), tt), (tt, tt)); unmixed = ((λ k n p q e z. refl, (λ k n p q e z. refl, tt)), ((λ k n p q e z. refl, (λ k n p q e z. refl, tt)), tt)) }, tt), tt),
  );
  maps = ((record { element = omega arith; components = tt }, tt), ((record { element = omega arith; components = tt }, (record { element = omega arith; components = tt }, tt)), tt));
  rules = (tt, (tt, tt));
  separators_alone = λ l h c e. absurd (none-some c (sym (no_control l) ∙ e));
  codes = record { planned = (((tt, tt), tt), (((record { no_element = (λ e. omega (arith, e), (λ e. omega (arith, e), tt)); no_component = (λ e. omega (arith, e), (λ e. omega (arith, e), tt)); no_segment = (λ e. omega (arith, e), (λ e. omega (arith, e), tt)) }, (tt, tt)), tt), tt)); elements = ((tt, tt), ((tt, (tt, tt)), tt)); components = ((tt, tt), ((tt, (tt, tt)), tt)); version = tt };
})

-- ---- its due segments

steps : tour (outline_of listing)
    ≡ enters 0 ∷ stop 0 0 0 ∷ row_segment 0 0 0 0 ∷ enters 1 ∷ stop 1 1 0 ∷ row_segment 1 0 1 0 ∷ enters 1 ∷ stop 1 1 2 ∷ enters 0 ∷ stop 0 0 1 ∷ row_segment 0 0 0 1 ∷ []
unfolding outline_of filled_in columns_in same_in A.plan_of A.planned_of A.forced_of A.group_columns_of A.capacity_of A.data_of has_keys first_row referred held held_in rows_in by_kind instances due_row segment_steps body_steps opened children close_steps instance_steps visits tour_to loop_of plan_of table_of parent_of kind_of order_of segment_of has_occurrence table_parent row_count plain repeated C.reference_in C.opt_get C.ref_column C.get C.bit_of C.value_of C.held C.key_in C.cell_in
steps = refl

-- CLP*A1~ SVC*HC*100~ CLP*B2~
pub dues : dues_of (due_segments listing)
    ≡ record { id = CLP; parts = at 1 (65 ∷ 49 ∷ []) ∷ [] } ∷ record { id = SVC; parts = at 1 (72 ∷ 67 ∷ []) ∷ at 2 (49 ∷ 48 ∷ 48 ∷ []) ∷ [] } ∷ record { id = CLP; parts = at 1 (66 ∷ 50 ∷ []) ∷ [] } ∷ []
unfolding due_segments steps_due step_due step_counters row_due row_put put_cell cell_text A.identifier_of A.loop_of A.plan_of A.planned_of A.data_of C.opt_get C.get C.bit_of C.value_of C.held C.cell_in C.bytes_of C.between int_text signed count_text figures size first_from
dues = rw steps refl

-- table and row of the listing's lines S
pub sources : sources_of (due_segments listing) ≡ Some (0, 0) ∷ Some (1, 0) ∷ Some (0, 1) ∷ []
unfolding due_segments steps_due step_due step_counters row_due
sources = rw steps refl

no_separator : separator_held listing ≡ false
unfolding separator_held separators member_of due_segments steps_due step_due step_counters row_due cell_text A.identifier_of A.loop_of A.plan_of A.planned_of A.data_of C.opt_get C.get C.bit_of C.value_of C.held C.cell_in C.bytes_of C.between int_text signed count_text figures size first_from
no_separator = rw steps refl

pub reads_back : ReadsDue listing (walked_out listing).bytes
unfolding job_of
reads_back =
    let e : job_of listing_bytes ≡ listing = ap (or_else no_job) listing_decodes in
    (let h = rw e at (nothing_lost listing_bytes (passed listing_bytes listing_passes)) in h.reads_back complete (h.found ∙ no_separator))

-- CLP*A1~SVC*HC*100~CLP*B2~
pub document : (walked_out listing).bytes
    ≡ 67 ∷ 76 ∷ 80 ∷ 42 ∷ 65 ∷ 49 ∷ 126 ∷ 83 ∷ 86 ∷ 67 ∷ 42 ∷ 72 ∷ 67 ∷ 42 ∷ 49 ∷ 48 ∷ 48 ∷ 126 ∷ 67 ∷ 76 ∷ 80 ∷ 42 ∷ 66 ∷ 50 ∷ 126 ∷ []
unfolding joined_all joined elements_of elements_from element_text here after all_plain first_text highest segment_bytes behind line_feed
document = walked_bytes listing ∙ rw dues refl

pub example : ExampleReadsBack
example = record { complete = complete; due = dues; sources = sources; no_separator = no_separator; document = document; reads_back = reads_back }
