-- A complete plan with all that the condition on places speaks of (docs/RULES.md, "Places"): a trigger that gives separators, a closer, a row segment,
-- and a repeat segment of two rows a chunk.
use Prim.Native.Nat.{ℕ, zero, suc}
use mathlib.Core.Path.{◌≡◌, refl}
use mathlib.Core.Bool.{true}
use mathlib.Core.List.{[]}
use native.Mathlib.Omega.{arith}
use Rattle.std.proofs.lemmas.Option.{none-some}
use Rattle.codec.specs.Limits.{any, any_of}
use Rattle.format.specs.Plan.{from_envelope, from_column, from_group, Value}
use Rattle.format.specs.Words.{any_from, all_of, if_some, present, times_in, member_of, repeats, times}
use Rattle.format.specs.Refusal.{large, over_control, over_loop, over_component, over_element, over_segment, over_step, over_table, over_version, over_element_plan, over_segment_plan, over_loop_plan, over_table_data, rows_of_all, over_spec, over_data, over, loops_in, outside, outside_loop, outside_table, outside_order, not_parent, not_child, disagrees, up, ringed, misrooted, misordered, tangled_loops, tangled, upper, digit, textual, separators, identifier, unnamed, foreign, unfit_loop, unfit_component, unfit_element, unfit_segment, unfit_version, unfit_spec, unfit_envelope, scale, unfit_column, unfit_reference, unfit_table_data, unfit, refusal_in}
use Rattle.format.specs.Ask as A
use Rattle.nest.specs.Outline.{loop_of, plan_of, table_of, parent_of, kind_of, order_of, segment_of, table_parent, plain, repeated}
use Rattle.nest.specs.OfJob.{outline_of}
use Rattle.walk.specs.Complete.{climbs, is_root}
use Rattle.walk.specs.Check.{fits, tree_tests, plan_tests, complete_ok}
use Rattle.walk.proofs.CheckRight.{check_right}
use Rattle.complete.specs.Complete.{PlanStarts, MapStarts, SegmentFits, StandsAlone, SeparatorsAlone, Entries, CompletePlan}
use Rattle.lossless.proofs.Conditions.{plan_complete}
use Rattle.lossless.specs.Sample.{element, placed, claim, adjustments, job}

pub passes : refusal_in job ≡ 0
unfolding refusal_in over over_spec over_data any any_of if_some large over_control over_loop over_component over_element over_segment over_step over_table over_version over_element_plan over_segment_plan over_loop_plan over_table_data rows_of_all tangled tangled_loops outside_loop outside_table outside_order outside loops_in disagrees not_parent not_child ringed misrooted misordered up any_from present times_in member_of repeats times unfit unfit_spec unfit_envelope unfit_table_data unfit_reference unfit_column scale unfit_version unfit_segment unfit_element unfit_component unfit_loop foreign unnamed identifier separators textual digit upper all_of
passes = refl

tests : complete_ok (outline_of job) ≡ true
unfolding outline_of complete_ok tree_tests plan_tests fits climbs is_root loop_of plan_of table_of parent_of kind_of order_of segment_of table_parent plain repeated
tests = refl

starts : (e : ℕ) (v : Value) → PlanStarts (placed (suc e) v)
starts e v = record { element = omega arith; component = tt }

key : (n : ℕ) → MapStarts (suc n, element)
key n = record { element = omega arith; components = tt }

claim_fits : SegmentFits job claim
claim_fits = record { starts = (starts 0 (from_column 0), tt); placed = (tt, tt); unmixed = ((λ k n p q e z. refl, tt), tt) }

adjustments_fit : SegmentFits job adjustments
unfolding A.step_of A.table_of A.capacity_of
adjustments_fit = record {
  starts = (starts 0 (from_column 0), (starts 1 (from_group 1), (starts 2 (from_group 2), tt)));
  placed = (
    ((λ k n p q e z. omega (arith, p, q, e), (λ k n p q e z. omega (arith, p, q, e), tt)), ((λ k n p q e z. omega (arith, p, q, e), tt), (tt, tt))),
    (λ k n p q e. omega (arith, p, q, e), (λ k n p q e. omega (arith, p, q, e), (λ k n p q e. omega (arith, p, q, e), tt))),
  );
  unmixed = (
    (λ k n p q e z. refl, (λ k n p q e z. refl, (λ k n p q e z. refl, tt))),
    ((λ k n p q e z. refl, (λ k n p q e z. refl, (λ k n p q e z. refl, tt))), ((λ k n p q e z. refl, (λ k n p q e z. refl, (λ k n p q e z. refl, tt))), tt)),
  );
}

alone : (n : ℕ) → StandsAlone (record { occurrence = 0; source = from_envelope; elements = [] }) (n, element)
alone n = record { no_components = refl; plain = tt }

separators_alone : SeparatorsAlone job
unfolding A.loop_of A.plan_of A.segment_def
separators_alone zero h c e = ((λ s. (λ g. alone 11, (λ g. alone 13, (λ g. alone 16, tt)))), tt)
separators_alone (suc zero) h c e = absurd (none-some c e)
separators_alone (suc (suc l)) h c e = absurd (omega arith)

entries : Entries job
entries = record { plan = refl; order = refl; forced = refl; group_columns = refl; depth = refl; capacity = refl; data_tables = refl }

pub complete : CompletePlan job
complete = plan_complete job ((check_right (outline_of job)).0 tests) entries (record {
  segments = ((record { starts = tt; placed = tt; unmixed = tt }, tt), ((claim_fits, (adjustments_fit, tt)), tt));
  maps = ((key 0, tt), ((key 10, (key 12, (key 15, tt))), tt));
  rules = (record { opener = omega arith; closer = omega arith; count = omega arith; differ = λ e. omega (arith, e) }, (tt, tt));
  separators_alone = separators_alone;
  codes = record { planned = ((tt, tt), (((tt, tt), ((tt, (tt, (tt, tt))), tt)), tt)); elements = ((tt, tt), ((tt, (tt, (tt, tt))), tt)); components = ((tt, tt), ((tt, (tt, (tt, tt))), tt)); version = tt };
})
