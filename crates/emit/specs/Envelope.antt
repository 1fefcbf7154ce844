-- The trigger of an envelope loop and its closer (write/envelope.rs, write/emit.rs; docs/RULES.md, "Openers", "Closers" and
-- "Envelope fields").
use Rattle.std.specs.Prelude.{ℕ, zero, suc, Bool, true, false, List, [], ◌∷◌, ◌++◌, eqb, leb, get_or, Some, None, Option}
use Rattle.format.specs.Spec.{Kind, kind_an, kind_id, kind_n, kind_r, kind_dt, kind_tm, ElementDef, Version, Control}
use Rattle.format.specs.Envelope as E
use Rattle.format.specs.Job.{Job}
use Rattle.texts.specs.Number.{count_text}
use Rattle.texts.specs.Pad.{padded, control_text}
use Rattle.texts.specs.Floor.{signed32}
use Rattle.texts.specs.Reason.{Outcome}
use Rattle.texts.specs.DateText.{envelope_date}
use Rattle.texts.specs.Clock.{envelope_time}
use Rattle.segment.specs.Parts.{pick}
use Rattle.nest.specs.Lists.{on, first}
use Rattle.nest.specs.Finding.{Finding, field}
use Rattle.format.specs.Ask.{loop_of, segment_def, min_of, depth_of, found, same_bytes}
use Rattle.emit.specs.Puts.{Put, nothing, put_text, put_all, part_at, place_of, delimited, unwritten}

-- ---- fields, by their case in the Rust's `Field`

abbrev pub control_number : ℕ
control_number = 9

abbrev pub repetition : ℕ
repetition = 10

abbrev pub component : ℕ
component = 11

abbrev pub version : ℕ
version = 12

-- the field of each element of ISA, GS and ST
abbrev pub layout : List (List (ℕ × ℕ))
layout =
    ((5, 0) ∷ (6, 1) ∷ (7, 2) ∷ (8, 3) ∷ (9, 6) ∷ (10, 7) ∷ (11, 10) ∷ (15, 8) ∷ (16, 11) ∷ [])
    ∷ ((2, 4) ∷ (3, 5) ∷ (4, 6) ∷ (5, 7) ∷ [])
    ∷ []
    ∷ []

unfoldable pub field_at : ℕ → ℕ → Option ℕ
field_at depth position = found (eqb position) (get_or layout depth [])

-- ---- what a field gives

-- a text with the reason 0 or no text with its reason; `checked` says whether it is tried for separators
pub record Given : Type 0 where
  pub text : List ℕ
  pub reason : ℕ
  pub checked : Bool

abbrev pub plainly : List ℕ → Given
plainly text = record { text = text; reason = 0; checked = true }

abbrev pub outcome : Outcome → Given
outcome o = record { text = o.text; reason = o.reason; checked = true }

abbrev pub separator : ℕ → Given
separator b = record { text = b ∷ []; reason = 0; checked = false }

-- without the white space at its end: bytes 9 to 13 and 32 (the Rust's `trim_end` on ASCII)
abbrev pub is_white : ℕ → Bool
is_white b = pick (eqb b 32) true (pick (leb 9 b) (leb b 13) false)

abbrev pub unless_last : ℕ → List ℕ → List ℕ
unless_last b [] = pick (is_white b) [] (b ∷ [])
unless_last b (x ∷ xs) = b ∷ x ∷ xs

unfoldable pub trim_end : List ℕ → List ℕ
trim_end [] = []
trim_end (b ∷ bs) = unless_last b (trim_end bs)

-- the repetition element's own code, or else the separator where there is one
abbrev pub repetition_given : Option (List ℕ) → Option ℕ → Option Given
repetition_given (Some code) r = Some (plainly code)
repetition_given None r = on r (λ b. Some (separator b)) None

-- what each field gives an element; none: the element is left out
unfoldable pub field_given : E.Envelope → ElementDef → ℕ → Option Given
field_given e d f = get_or
    (Some (plainly e.sender_qualifier)
    ∷ Some (plainly e.sender_id)
    ∷ Some (plainly e.receiver_qualifier)
    ∷ Some (plainly e.receiver_id)
    ∷ Some (plainly (on e.application_sender (λ x. x) (trim_end e.sender_id)))
    ∷ Some (plainly (on e.application_receiver (λ x. x) (trim_end e.receiver_id)))
    ∷ Some (outcome (envelope_date (signed32 e.date) d.max))
    ∷ Some (outcome (envelope_time (signed32 e.time) d.max))
    ∷ Some (plainly e.usage_indicator)
    ∷ None
    ∷ repetition_given (first d.codes) e.repetition
    ∷ Some (separator e.component)
    ∷ [])
    f None

-- ---- the elements of a trigger

-- where an element's text comes from: its field, if it has one, and what it gives
pub record Sourced : Type 0 where
  pub field : Option ℕ
  pub given : Given

-- the version's first value, where the version names this segment and element
abbrev pub version_at : Job → List ℕ → ℕ → Option (List ℕ)
version_at j trigger position = on j.spec.version (λ (v : Version). pick (same_bytes v.segment trigger) (pick (eqb v.element position) (Some v.first) None) None) None

abbrev pub unsourced : ElementDef → Sourced
unsourced d = record { field = None; given = plainly (on (first d.codes) (λ c. c) []) }

abbrev pub versioned : List ℕ → Sourced
versioned text = record { field = Some version; given = plainly text }

abbrev pub fielded : E.Envelope → ElementDef → ℕ → Option Sourced
fielded e d f = on (field_given e d f) (λ g. Some (record { field = Some f; given = g })) None

-- in this order: the control number, the layout's field, the version, the first code; none: the element is left out
unfoldable pub source_at : Job → List ℕ → ℕ → ℕ → List ℕ → ℕ → ElementDef → Option Sourced
source_at j trigger depth opener control position d =
    pick (eqb position opener)
    (Some (record { field = Some control_number; given = plainly control }))
    (on (field_at depth position) (fielded j.envelope d)
    (Some (on (version_at j trigger position) versioned (unsourced d))))

abbrev pub is_numeric : Kind → Bool
is_numeric kind_an = false
is_numeric kind_id = false
is_numeric (kind_n n) = true
is_numeric (kind_r n) = false
is_numeric kind_dt = false
is_numeric kind_tm = false

-- padded to the element's width, but for a text that was refused
abbrev pub padded_to : ElementDef → ℕ → List ℕ → List ℕ
padded_to d zero text = padded (is_numeric d.kind) d.min d.max text
padded_to d (suc reason) text = text

abbrev pub field_findings : Job → List ℕ → ℕ → ℕ → Given → List ℕ → List Finding
field_findings j trigger position f g text =
    pick g.checked (delimited j (field f) (place_of trigger position None) text) [] ++ unwritten (field f) (place_of trigger position None) g.reason

-- only what comes from a field is tried, and has a trace entry
abbrev pub put_sourced : Job → List ℕ → ℕ → ElementDef → Sourced → Put
put_sourced j trigger position d s =
    let text = padded_to d s.given.reason s.given.text in
    on s.field
    (λ f. record { parts = part_at position None text ∷ []; findings = field_findings j trigger position f s.given text; entries = 1 })
    (put_text position None text)

unfoldable pub put_element : Job → List ℕ → ℕ → ℕ → List ℕ → ℕ × ElementDef → Put
put_element j trigger depth opener control x = on (source_at j trigger depth opener control x.0 x.1) (put_sourced j trigger x.0 x.1) nothing

-- ---- the trigger and the closer of a loop with `control`

-- a control number in the loop's trigger: zeros in front up to the opener element's min
unfoldable pub control_in : Job → ℕ → Control → ℕ → List ℕ
control_in j l c number = control_text number (min_of j (loop_of j l).trigger c.opener)

-- a trigger that the segment map lacks is its identifier alone
unfoldable pub opener_put : Job → ℕ → Control → ℕ → Put
opener_put j l c number =
    let trigger = (loop_of j l).trigger in
    put_all (put_element j trigger (depth_of j l) c.opener (control_in j l c number)) (on (segment_def j trigger) (λ d. d) [])

-- the closer's two texts in the order of their elements, the count first where they are equal; entries are counted at the closer's element
abbrev pub counted : ℕ → ℕ → List ℕ → Put
counted closer e text = record { parts = part_at e None text ∷ []; findings = []; entries = pick (eqb e closer) 1 0 }

unfoldable pub closer_put : Control → List ℕ → ℕ → Put
closer_put c control count =
    pick (leb c.count c.closer)
    (put_all (λ (p : ℕ × List ℕ). counted c.closer p.0 p.1) ((c.count, count_text count) ∷ (c.closer, control) ∷ []))
    (put_all (λ (p : ℕ × List ℕ). counted c.closer p.0 p.1) ((c.closer, control) ∷ (c.count, count_text count) ∷ []))
