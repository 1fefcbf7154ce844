-- The tests over the sections of a job that passed decide the conditions.
use Prim.Native.Nat.{ℕ, ◌≤◌}
use mathlib.Core.Path.{◌≡◌, refl}
use mathlib.Core.List.{List}
use mathlib.Core.Bool.{Bool, true, not}
use Rattle.codec.specs.Codec.{◌⊗◌, le_c, list_c, pick}
use Rattle.codec.specs.Forms.{bytes_c}
use Rattle.codec.specs.Skip.{skip}
use Rattle.codec.specs.Limits.{any_of}
use Rattle.codec.proofs.Maps.{is_bytes_map}
use Rattle.format.specs.Spec.{Control, Loop, loop_c, ComponentDef, ElementDef, SegmentDef, segment_c, spec_c}
use Rattle.format.proofs.Fields.{is_spec}
use Rattle.format.proofs.Decoding.{is_read}
use Rattle.format.specs.Plan.{loop_plan_c}
use Rattle.format.specs.Sections.{job_of, plan_start, layout_start}
use Rattle.format.specs.Passed.{Passed}
use Rattle.nest.specs.Lists.{All}
use Rattle.complete.specs.Complete.{IfThere, MapStarts, RuleFits, CodesClear}
use Rattle.says.specs.Says.{Says}
use Rattle.says.proofs.Walk.{section_says}
use Rattle.codes.proofs.Refutes.{Refutes}
use Rattle.complete.specs.Decides.{Decides}
use Rattle.codes.specs.Fits.{MapsFit, RulesFit}
use Rattle.codes.specs.declared.codes.Marks.{Marks}
use Rattle.codes.specs.Codes.{MarksOf, marked_loop_plan, marked_spec}
use Rattle.codes.proofs.Coding.{codes_refuted}
use Rattle.codes.specs.Rules.{wrong_control, wrong_loop}
use Rattle.codes.specs.Maps.{low_component, low_element, low_segment}
use Rattle.codes.proofs.Laws.{decided, refute_as, refute_any, refute_none, refute_all, refute_there, refute_low, refute_same}

-- ---- rules
control_refuted : (c : Control) → Refutes (wrong_control c) (RuleFits c)
unfolding wrong_control
control_refuted c = refute_as _ _ _
    (λ h. record { opener = h.0; closer = h.1.0; count = h.1.1.0; differ = h.1.1.1.0 })
    (λ f. (f.opener, (f.closer, (f.count, (f.differ, tt)))))
    (refute_any _ _ _ _ (refute_low c.opener) (refute_any _ _ _ _ (refute_low c.closer) (refute_any _ _ _ _ (refute_low c.count) (refute_any _ _ _ _ (refute_same c.closer c.count) refute_none))))

loop_refuted : (l : Loop) → Refutes (wrong_loop l) (IfThere RuleFits l.control)
unfolding wrong_loop
loop_refuted l = refute_there wrong_control RuleFits control_refuted l.control

pub rules_decided : (b : List ℕ) → Passed b → (e : ℕ) (t : Bool) → e ≡ plan_start b → Says (list_c loop_c) b e 0 (any_of wrong_loop) t → Decides (not t) (RulesFit (job_of b))
rules_decided b p e t i s =
    let z : t ≡ any_of wrong_loop (job_of b).spec.loops = s _ (rw i (is_spec b (plan_start b) 0 _ (is_read spec_c b 0 (plan_start b) _ p.read.spec)).loops) in
    rw z (decided _ _ (refute_all wrong_loop _ loop_refuted (job_of b).spec.loops))

-- ---- maps
component_refuted : (x : ℕ × ComponentDef) → Refutes (low_component x) (1 ≤ x.0)
unfolding low_component
component_refuted x = refute_low x.0

element_refuted : (x : ℕ × ElementDef) → Refutes (low_element x) (MapStarts x)
unfolding low_element
element_refuted x = refute_as _ _ _ (λ h. record { element = h.0; components = h.1.0 }) (λ f. (f.element, (f.components, tt)))
    (refute_any _ _ _ _ (refute_low x.0) (refute_any _ _ _ _ (refute_all low_component _ component_refuted x.1.components) refute_none))

segment_refuted : (x : List ℕ × SegmentDef) → Refutes (low_segment x) (All MapStarts x.1)
unfolding low_segment
segment_refuted x = refute_all low_element MapStarts element_refuted x.1

pub maps_decided : (b : List ℕ) → Passed b → (e at : ℕ) (t : Bool) → e ≡ plan_start b → at ≡ skip (list_c (le_c 4)) b (skip (list_c loop_c) b 0 e) e
    → Says (list_c (bytes_c ⊗ segment_c)) b e at (any_of low_segment) t → Decides (not t) (MapsFit (job_of b))
maps_decided b p e at t i j s =
    let m = (is_bytes_map _ _ _ _ _ (is_spec b (plan_start b) 0 _ (is_read spec_c b 0 (plan_start b) _ p.read.spec)).segments).0 in
    let z : t ≡ any_of low_segment (job_of b).spec.segments = s _ (rw (j, i) m) in
    rw z (decided _ _ (refute_all low_segment _ segment_refuted (job_of b).spec.segments))

-- ---- codes
pub codes_decided : (b : List ℕ) → Passed b → (m : Marks) → MarksOf (job_of b) m → (q e : ℕ) (x y t : Bool) → q ≡ plan_start b → e ≡ layout_start b
    → Says (list_c loop_plan_c) b e q (any_of (marked_loop_plan m)) x → Says spec_c b q 0 (marked_spec m) y → t ≡ pick x true y → Decides (not t) (CodesClear (job_of b))
codes_decided b p m o q e x y t i k s u w =
    let f : x ≡ any_of (marked_loop_plan m) (job_of b).plan = section_says _ _ _ _ _ _ _ _ _ s i k p.read.plan in
    let g : y ≡ marked_spec m (job_of b).spec = section_says _ _ _ _ _ _ _ _ _ u refl i p.read.spec in
    rw (w, f, g) (decided _ _ (codes_refuted (job_of b) m o))
