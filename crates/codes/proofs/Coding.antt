-- The tests of codes decide what a complete plan asks of them.
use Prim.Native.Nat.{ℕ}
use mathlib.Core.Path.{sym}
use mathlib.Core.Logic.{◌≢◌}
use mathlib.Core.List.{List, [], ◌∷◌}
use mathlib.Core.Bool.{true}
use Rattle.codec.specs.Codec.{pick}
use Rattle.codec.specs.Limits.{any_of}
use Rattle.format.specs.Plan.{Value, from_column, from_group, from_code, ElementPlan, SegmentPlan, LoopPlan}
use Rattle.format.specs.Spec.{ComponentDef, ElementDef, SegmentDef, Version}
use Rattle.format.specs.Job.{Job}
use Rattle.segment.specs.Grammar.{Without}
use Rattle.nest.specs.Lists.{All}
use Rattle.complete.specs.Complete.{Clear, CodeClear, CodesClear}
use Rattle.codes.proofs.Refutes.{Refutes}
use Rattle.codes.specs.declared.codes.Marks.{Marks}
use Rattle.codes.specs.Codes.{MarksOf, mark, marked, marked_spec, marked_value, marked_element_plan, marked_segment_plan, marked_loop_plan, marked_component, marked_element, marked_segment, marked_version}
use Rattle.codes.proofs.Laws.{no_way, refute_as, refute_either, refute_any, refute_none, refute_all, refute_there, refute_same}
use Rattle.codes.proofs.Listing.{all_map, all_both}

text_refuted : (m : Marks) (t : List ℕ) → Refutes (any_of (mark m) t) (Without m.element t × (Without m.component t × Without m.segment t))
unfolding any_of mark
text_refuted m [] = (λ i. (tt, (tt, tt)), λ i. no_way (sym i))
text_refuted m (x ∷ xs) = refute_as _
    (((x ≢ m.element) × ((x ≢ m.component) × ((x ≢ m.segment) × Unit {0}))) × (Without m.element xs × (Without m.component xs × Without m.segment xs))) _
    (λ q. ((q.0.0, q.1.0), ((q.0.1.0, q.1.1.0), (q.0.1.1.0, q.1.1.1))))
    (λ q. ((q.0.0, (q.1.0.0, (q.1.1.0, tt))), (q.0.1, (q.1.0.1, q.1.1.1))))
    (refute_either _ _ _ _ (refute_any _ _ _ _ (refute_same x m.element) (refute_any _ _ _ _ (refute_same x m.component) (refute_any _ _ _ _ (refute_same x m.segment) refute_none))) (text_refuted m xs))

module _ (j : Job) (m : Marks) (o : MarksOf j m) where
  clear_refuted : (t : List ℕ) → Refutes (marked m t) (Clear j t)
  unfolding marked
  clear_refuted t = refute_as _ _ _
      (λ q. record { no_element = rw (← o.element) q.0; no_component = rw (← o.component) q.1.0; no_segment = rw (← o.segment) q.1.1 })
      (λ q. (rw o.element q.no_element, (rw o.component q.no_component, rw o.segment q.no_segment)))
      (text_refuted m t)

  value_refuted : (v : Value) → Refutes (marked_value m v) (CodeClear j v)
  value_refuted (from_column c) = (λ i. tt, λ i. no_way (sym i))
  value_refuted (from_group c) = (λ i. tt, λ i. no_way (sym i))
  value_refuted (from_code t) = clear_refuted t

  element_plan_refuted : (e : ElementPlan) → Refutes (marked_element_plan m e) (CodeClear j e.value)
  unfolding marked_element_plan
  element_plan_refuted e = value_refuted e.value

  segment_plan_refuted : (p : SegmentPlan) → Refutes (marked_segment_plan m p) (All (λ (e : ElementPlan). CodeClear j e.value) p.elements)
  unfolding marked_segment_plan
  segment_plan_refuted p = refute_all _ _ element_plan_refuted p.elements

  loop_plan_refuted : (p : LoopPlan) → Refutes (marked_loop_plan m p) (All (λ (s : SegmentPlan). All (λ (e : ElementPlan). CodeClear j e.value) s.elements) p.segments)
  unfolding marked_loop_plan
  loop_plan_refuted p = refute_all _ _ segment_plan_refuted p.segments

  component_refuted : (c : ℕ × ComponentDef) → Refutes (marked_component m c) (All (Clear j) c.1.codes)
  unfolding marked_component
  component_refuted c = refute_all _ _ clear_refuted c.1.codes

  abbrev ElementClear : ℕ × ElementDef → Type 0
  ElementClear x = All (Clear j) x.1.codes

  abbrev ComponentsClear : ℕ × ElementDef → Type 0
  ComponentsClear x = All (λ (c : ℕ × ComponentDef). All (Clear j) c.1.codes) x.1.components

  element_refuted : (x : ℕ × ElementDef) → Refutes (marked_element m x) (ElementClear x × ComponentsClear x)
  unfolding marked_element
  element_refuted x = refute_as _ (ElementClear x × (ComponentsClear x × Unit {0})) _ (λ q. (q.0, q.1.0)) (λ q. (q.0, (q.1, tt)))
      (refute_any _ _ _ _ (refute_all _ _ clear_refuted x.1.codes) (refute_any _ _ _ _ (refute_all _ _ component_refuted x.1.components) refute_none))

  segment_refuted : (s : List ℕ × SegmentDef) → Refutes (marked_segment m s) (All ElementClear s.1 × All ComponentsClear s.1)
  unfolding marked_segment
  segment_refuted s = refute_as _ _ _
      (λ q. (all_map _ ElementClear (λ x w. w.0) s.1 q, all_map _ ComponentsClear (λ x w. w.1) s.1 q)) (λ q. all_both ElementClear ComponentsClear s.1 q.0 q.1)
      (refute_all (marked_element m) _ element_refuted s.1)

  version_refuted : (v : Version) → Refutes (marked_version m v) (Clear j v.first)
  unfolding marked_version
  version_refuted v = clear_refuted v.first

  pub codes_refuted : Refutes (pick (any_of (marked_loop_plan m) j.plan) true (marked_spec m j.spec)) (CodesClear j)
  unfolding marked_spec
  codes_refuted = refute_as _ _ _
      (λ q. record {
        planned = q.0;
        elements = all_map _ (λ (s : List ℕ × SegmentDef). All ElementClear s.1) (λ s w. w.0) j.spec.segments q.1.0;
        components = all_map _ (λ (s : List ℕ × SegmentDef). All ComponentsClear s.1) (λ s w. w.1) j.spec.segments q.1.0;
        version = q.1.1;
      })
      (λ q. (q.planned, (all_both (λ (s : List ℕ × SegmentDef). All ElementClear s.1) (λ (s : List ℕ × SegmentDef). All ComponentsClear s.1) j.spec.segments q.elements q.components, q.version)))
      (refute_either _ _ _ _ (refute_all (marked_loop_plan m) _ loop_plan_refuted j.plan) (refute_either _ _ _ _ (refute_all (marked_segment m) _ segment_refuted j.spec.segments) (refute_there (marked_version m) _ version_refuted j.spec.version)))
