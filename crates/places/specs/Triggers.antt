-- Not to be believed: words of inner contracts, on which no contract of what users call rests.
-- Envelope fields that give a separator, as tests (docs/RULES.md, "Places"): such a field is planned at no component.
use Rattle.std.specs.Prelude.{ℕ, List, [], Bool, true, false, not, eqb}
use Rattle.codec.specs.Codec.{pick}
use Rattle.codec.specs.Limits.{any_of}
use Rattle.format.specs.Words.{if_some, present}
use Rattle.format.specs.Spec.{Control, ElementDef, SegmentDef}
use Rattle.format.specs.Plan.{Source, from_envelope, from_row, from_repeat, ElementPlan, SegmentPlan, LoopPlan}
use Rattle.format.specs.Job.{Job}
use Rattle.format.specs.Ask.{loop_of, segment_def, depth_of}
use Rattle.nest.specs.Lists.{on}
use Rattle.segment.specs.Parts.{is_empty}
use Rattle.emit.specs.Envelope.{field_at, repetition, component}
use Rattle.places.specs.declared.triggers.Trigger.{Trigger}

-- a field gives a separator: the component's, or the repetition's that has no code, where there is one
unfoldable pub field_gives : Bool → Bool → ℕ → Bool
field_gives repeated plain f = pick (eqb f component) true (pick (eqb f repetition) (pick plain repeated false) false)

unfoldable pub gives : Trigger → ℕ × ElementDef → Bool
gives t x = pick (eqb x.0 t.opener) false (if_some (field_gives t.repetition (is_empty x.1.codes)) (field_at t.depth x.0))

-- a planned element is a component of element n
unfoldable pub part_of : ℕ → ElementPlan → Bool
part_of n e = pick (eqb e.element n) (present e.component) false

-- an element has components by its definition or by the segment's own list
unfoldable pub crowded : List ElementPlan → ℕ × ElementDef → Bool
crowded es x = pick (not (is_empty x.1.components)) true (any_of (part_of x.0) es)

unfoldable pub wrong_element : Trigger → List ElementPlan → ℕ × ElementDef → Bool
wrong_element t es x = pick (gives t x) (crowded es x) false

abbrev pub is_envelope : Source → Bool
is_envelope from_envelope = true
is_envelope (from_row t) = false
is_envelope (from_repeat t) = false

unfoldable pub wrong_trigger : Trigger → SegmentDef → SegmentPlan → Bool
wrong_trigger t xs p = pick (is_envelope p.source) (any_of (wrong_element t p.elements) xs) false

abbrev pub trigger_of : Job → ℕ → ℕ → Trigger
trigger_of j l opener = record { opener = opener; depth = depth_of j l; repetition = present j.envelope.repetition }

abbrev pub defs_of : Job → ℕ → SegmentDef
defs_of j l = on (segment_def j (loop_of j l).trigger) (λ d. d) []

-- of a loop whose control number stands in element `opener`
unfoldable pub wrong_ruled : Job → ℕ → ℕ → LoopPlan → Bool
wrong_ruled j l opener p = any_of (wrong_trigger (trigger_of j l opener) (defs_of j l)) p.segments

unfoldable pub wrong_loop_at : Job → ℕ → LoopPlan → Bool
wrong_loop_at j l p = if_some (λ (c : Control). wrong_ruled j l c.opener p) (loop_of j l).control
