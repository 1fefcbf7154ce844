use Rattle.trigger.proofs.Givens.{tells_as, field_0, field_1, field_2, field_3, field_4, field_5, field_6, field_7, field_8, field_11, field_none}
use mathlib.Core.Path.{refl, sym, subst}
use lib.IntN.{ℤ}
use Rattle.texts.specs.Said.{Says}
use Rattle.texts.specs.DateText.{envelope_date}
use Rattle.texts.specs.Clock.{envelope_time}
use Rattle.std.proofs.Common.{w32}
use Rattle.emit.proofs.TextLaws.{back}
use native.Mathlib.Omega.{arith}
use Rattle.texts.proofs.Answers.{envelope_date_length, envelope_time_length}
use Rattle.texts.specs.Floor.{signed32}
use Rattle.format.specs.Sections.{job_of}
use Rattle.trigger.proofs.given.field_source.Goals as goal

pub returns-in-0 : goal.returns-in-0
returns-in-0 c = λ y h. tells_as (sym (field_0 _ y.1 _ c.in-0.is)) (c.of_stretch.ensures _ _ c.sender_qualifier.ensures)

pub returns-in-1 : goal.returns-in-1
returns-in-1 c = λ y h. tells_as (sym (field_1 _ y.1 _ c.in-1.is)) (c.of_stretch-in-1.ensures _ _ c.sender_id.ensures)

pub returns-in-2 : goal.returns-in-2
returns-in-2 c = λ y h. tells_as (sym (field_2 _ y.1 _ c.in-2.is)) (c.of_stretch-in-2.ensures _ _ c.receiver_qualifier.ensures)

pub returns-in-3 : goal.returns-in-3
returns-in-3 c = λ y h. tells_as (sym (field_3 _ y.1 _ c.in-3.is)) (c.of_stretch-in-3.ensures _ _ c.receiver_id.ensures)

pub returns-in-4 : goal.returns-in-4
returns-in-4 c = λ y h. tells_as (sym (field_4 _ y.1 _ c.in-4.is)) (c.of_stretch-in-4.ensures _ _ (rw c.sender_id-id.ensures.bytes at (c.application.ensures _ c.application_sender-code.ensures)))

pub returns-in-5 : goal.returns-in-5
returns-in-5 c = λ y h. tells_as (sym (field_5 _ y.1 _ c.in-5.is)) (c.of_stretch-in-5.ensures _ _ (rw c.receiver_id-id.ensures.bytes at (c.application-in-5.ensures _ c.application_receiver-code.ensures)))

pub returns-in-6 : goal.returns-in-6
returns-in-6 c = λ y h. tells_as (sym (field_6 _ y.1 _ c.in-6.is)) (c.of_said.ensures _ _ (omega (arith, envelope_date_length (signed32 (job_of c.args.job.at.bytes.now).envelope.date) y.1.max)) (let r = c.from_bits-days in let q = subst (λ (z : ℤ). Says c.envelope_date.result (envelope_date z c.width_of.result)) (back {w = w32} (record { sfits = r.type_inv }) r.ensures) c.envelope_date.ensures in rw (c.date.ensures, c.width_of.ensures, h.max) at q))

pub returns-in-7 : goal.returns-in-7
returns-in-7 c = λ y h. tells_as (sym (field_7 _ y.1 _ c.in-7.is)) (c.of_said-in-7.ensures _ _ (omega (arith, envelope_time_length (signed32 (job_of c.args.job.at.bytes.now).envelope.time) y.1.max)) (let r = c.from_bits-seconds in let q = subst (λ (z : ℤ). Says c.envelope_time.result (envelope_time z c.width_of-in-7.result)) (back {w = w32} (record { sfits = r.type_inv }) r.ensures) c.envelope_time.ensures in rw (c.time.ensures, c.width_of-in-7.ensures, h.max) at q))

pub returns-in-8 : goal.returns-in-8
returns-in-8 c = λ y h. tells_as (sym (field_8 _ y.1 _ c.in-8.is)) (c.of_stretch-in-8.ensures _ _ c.usage_indicator.ensures)

pub returns-in-11 : goal.returns-in-11
returns-in-11 c = λ y h. tells_as (sym (field_11 _ y.1 _ c.in-11.is)) (rw c.component_separator.ensures at (c.of_byte.ensures c.args.job.at.bytes.now))

pub returns-in_default : goal.returns-in_default
returns-in_default c = λ y h. tells_as (sym (field_none _ y.1 _ (omega arith) (omega arith) (omega arith))) (record { says = refl; short = tt })
