-- What an element of an envelope's trigger has at most: a text of the envelope, the version, a code or a control number, padded.
use Prim.Native.Nat.{ℕ, zero, suc, ◌+◌, ◌-◌, ◌≤◌}
use mathlib.Core.Bool.{Bool, true, false, cond}
use mathlib.Core.List.{List, [], ◌∷◌, ◌++◌}
use native.Mathlib.Omega.{arith}
use lib.Dec.{eqb}
use lib.IntN.{ℤ}
use lib.ListN.{length, replicate, length-append, length-replicate}
use Rattle.codec.specs.Codec.{map_c, dep_c}
use Rattle.format.specs.Spec.{ElementDef, Version}
use Rattle.format.specs.Envelope as E
use Rattle.format.specs.Envelope.{envelope_c}
use Rattle.format.specs.Job.{Job}
use Rattle.format.specs.Ask.{same_bytes}
use Rattle.std.specs.Prelude.{None, Option, Some}
use Rattle.texts.specs.Pad.{is_at, zero_padded, space_padded, padded}
use Rattle.texts.specs.Floor.{signed32}
use Rattle.texts.specs.Reason.{Width}
use Rattle.texts.specs.DateText.{envelope_date}
use Rattle.texts.specs.Clock.{envelope_time}
use Rattle.texts.proofs.Answers.{envelope_date_length, envelope_time_length}
use Rattle.segment.specs.Parts.{pick}
use Rattle.nest.specs.Lists.{on, first}
use Rattle.emit.specs.Puts.{nothing, put_text}
use Rattle.emit.specs.Envelope.{Given, plainly, trim_end, unless_last, is_white, repetition_given, field_at, field_given, Sourced, version_at, unsourced, versioned, fielded, source_at, is_numeric, padded_to, put_sourced, put_element}
use Rattle.lossless.proofs.Openers.{given_all}
use Rattle.writer.proofs.BytesColumns.{text_long}
use Rattle.writer.proofs.BytesSections.{spec_bytes, or_nothing, option_text, version_within}
use Rattle.writer.proofs.BytesSegments.{Bounded, nothing_bounded, text_bounded}
use Rattle.writer.proofs.BytesDefined.{or_zero, code_of, Defined}

-- ---- padding

pub zero_length : (min : Option ℕ) (text : List ℕ) → or_zero min ≤ 255 → length (zero_padded min text) ≤ length text + 255
unfolding zero_padded
zero_length None text h = omega arith
zero_length (Some n) text h = omega (arith, length-append (replicate (n - length text) 48) text, length-replicate {A = ℕ} (n - length text) 48)

space_length : (min : Option ℕ) (max : Width) (text : List ℕ) → or_zero min ≤ 255 → length (space_padded min max text) ≤ length text + 255
unfolding space_padded
space_length None max text h = omega arith
space_length (Some n) max text h = go (is_at max n)
  where
    go : (b : Bool) → length (cond b (text ++ replicate (n - length text) 32) text) ≤ length text + 255
    go true = omega (arith, length-append text (replicate (n - length text) 32), length-replicate {A = ℕ} (n - length text) 32)
    go false = omega arith

padded_length : (b : Bool) (min : Option ℕ) (max : Width) (text : List ℕ) → or_zero min ≤ 255 → length (padded b min max text) ≤ length text + 255
unfolding padded
padded_length true min max text h = zero_length min text h
padded_length false min max text h = space_length min max text h

to_length : (d : ElementDef) (reason : ℕ) (text : List ℕ) → or_zero d.min ≤ 255 → length (padded_to d reason text) ≤ length text + 255
to_length d zero text h = padded_length (is_numeric d.kind) d.min d.max text h
to_length d (suc reason) text h = omega arith

-- ---- texts

trim_length : (t : List ℕ) → length (trim_end t) ≤ length t
unfolding trim_end
trim_length [] = omega arith
trim_length (b ∷ bs) = go (trim_end bs) (trim_length bs)
  where
    last : (t : Bool) → length (pick t [] (b ∷ [])) ≤ 1
    last true = omega arith
    last false = omega arith

    go : (xs : List ℕ) → length xs ≤ length bs → length (unless_last b xs) ≤ suc (length bs)
    go [] h = omega (arith, last (is_white b))
    go (x ∷ xs) h = omega arith

envelope_date_lem : (d : ℤ) (max : Width) → length (envelope_date d max).text ≤ 8
envelope_date_lem = envelope_date_length

envelope_time_lem : (s : ℤ) (max : Width) → length (envelope_time s max).text ≤ 6
envelope_time_lem = envelope_time_length

abbrev pub envelope_bytes : Job → ℕ
envelope_bytes j = length (envelope_c.enc j.envelope)

fields_in : (e : E.Envelope)
    → length e.sender_qualifier + length e.sender_id + length e.receiver_qualifier + length e.receiver_id + length (or_nothing e.application_sender) + length (or_nothing e.application_receiver) + length e.usage_indicator ≤ length (envelope_c.enc e)
unfolding envelope_c map_c dep_c
fields_in e =
    let a = text_long e.sender_qualifier in
    let b = text_long e.sender_id in
    let c = text_long e.receiver_qualifier in
    let d = text_long e.receiver_id in
    let f = option_text e.application_sender in
    let g = option_text e.application_receiver in
    let h = text_long e.usage_indicator in
    simp length-append (omega arith)

-- ---- an element of a trigger

-- what is given has a text of U bytes at most
abbrev Short : ℕ → Option Given → Type 0
Short U x = on x (λ (g : Given). length g.text) 0 ≤ U

abbrev ShortSource : ℕ → Option Sourced → Type 0
ShortSource U x = on x (λ (s : Sourced). length s.given.text) 0 ≤ U

or_else : (x : Option (List ℕ)) (y : List ℕ) → length (on x (λ z. z) (trim_end y)) ≤ length (or_nothing x) + length y
or_else None y = omega (arith, trim_length y)
or_else (Some x) y = omega arith

repetition_short : (U : ℕ) (c : Option (List ℕ)) (r : Option ℕ) → 1 ≤ U → length (on c (λ c. c) []) ≤ U → Short U (repetition_given c r)
repetition_short U None None one h = omega arith
repetition_short U None (Some b) one h = omega arith
repetition_short U (Some c) r one h = h

field_short : (U : ℕ) (e : E.Envelope) (d : ElementDef) (f : ℕ) → 8 ≤ U → length (envelope_c.enc e) ≤ U → length (code_of d) ≤ U → Short U (field_given e d f)
field_short U e d f eight h k =
    let m = fields_in e in
    given_all (Short U) e d f
    (omega arith)
    (omega (arith, m))
    (omega (arith, m))
    (omega (arith, m))
    (omega (arith, m))
    (omega (arith, m, or_else e.application_sender e.sender_id))
    (omega (arith, m, or_else e.application_receiver e.receiver_id))
    (omega (arith, envelope_date_lem (signed32 e.date) d.max))
    (omega (arith, envelope_time_lem (signed32 e.time) d.max))
    (omega (arith, m))
    (repetition_short U (first d.codes) e.repetition (omega arith) k)
    (omega arith)

fielded_short : (U : ℕ) (f : ℕ) (x : Option Given) → Short U x → ShortSource U (on x (λ g. Some (record { field = Some f; given = g })) None)
fielded_short U f None h = omega arith
fielded_short U f (Some g) h = h

version_short : (j : Job) (U : ℕ) (trigger : List ℕ) (position : ℕ) (d : ElementDef) → spec_bytes j ≤ U → length (code_of d) ≤ U
    → length (on (version_at j trigger position) versioned (unsourced d)).given.text ≤ U
version_short j U trigger position d h k = go j.spec.version (version_within j)
  where
    named : (v : Version) (a b : Bool) → length v.first ≤ spec_bytes j → length (on (pick a (pick b (Some v.first) None) None) versioned (unsourced d)).given.text ≤ U
    named v true true m = omega arith
    named v true false m = k
    named v false b m = k

    go : (x : Option Version) → length (on x (λ (v : Version). v.first) []) ≤ spec_bytes j
        → length (on (on x (λ (v : Version). pick (same_bytes v.segment trigger) (pick (eqb v.element position) (Some v.first) None) None) None) versioned (unsourced d)).given.text ≤ U
    go None m = k
    go (Some v) m = named v (same_bytes v.segment trigger) (eqb v.element position) m

source_short : (j : Job) (U : ℕ) (trigger : List ℕ) (depth own : ℕ) (control : List ℕ) (position : ℕ) (d : ElementDef) → 8 ≤ U → envelope_bytes j ≤ U → spec_bytes j ≤ U → length (code_of d) ≤ U → length control ≤ U
    → ShortSource U (source_at j trigger depth own control position d)
unfolding source_at
source_short j U trigger depth own control position d eight env spec code c = go (eqb position own) (field_at depth position)
  where
    go : (b : Bool) (x : Option ℕ) → ShortSource U (pick b (Some (record { field = Some 9; given = plainly control })) (on x (fielded j.envelope d) (Some (on (version_at j trigger position) versioned (unsourced d)))))
    go true x = c
    go false (Some f) = fielded_short U f (field_given j.envelope d f) (field_short U j.envelope d f eight env code)
    go false None = version_short j U trigger position d spec code

pub element_bounded : (j : Job) (U : ℕ) (trigger : List ℕ) (depth own : ℕ) (control : List ℕ) → 8 ≤ U → envelope_bytes j ≤ U → spec_bytes j ≤ U → length control ≤ U
    → (x : ℕ × ElementDef) → Defined (spec_bytes j) x → Bounded (put_element j trigger depth own control x) (U + 510) 255
unfolding put_element
element_bounded j U trigger depth own control eight env spec c x h = go (source_at j trigger depth own control x.0 x.1) (source_short j U trigger depth own control x.0 x.1 eight env spec (omega (arith, h.code)) c)
  where
    put : (s : Sourced) (f : Option ℕ) → length s.given.text ≤ U → Bounded (put_sourced j trigger x.0 x.1 (record { field = f; given = s.given })) (U + 510) 255
    put s f m =
        let text : List ℕ = padded_to x.1 s.given.reason s.given.text in
        let b = text_bounded x.0 255 None text (omega arith) h.number in
        either f (record { costs = omega (arith, b.costs, to_length x.1 s.given.reason s.given.text h.least); reaches = b.reaches })
      where
        either : (f : Option ℕ) → Bounded (put_text x.0 None (padded_to x.1 s.given.reason s.given.text)) (U + 510) 255 → Bounded (put_sourced j trigger x.0 x.1 (record { field = f; given = s.given })) (U + 510) 255
        either None b = b
        either (Some f) b = record { costs = b.costs; reaches = b.reaches }

    go : (y : Option Sourced) → ShortSource U y → Bounded (on y (put_sourced j trigger x.0 x.1) nothing) (U + 510) 255
    go None m = nothing_bounded (U + 510) 255
    go (Some s) m = put s s.field m
