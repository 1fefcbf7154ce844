use Rattle.std.specs.Prelude.{None}
use Rattle.texts.specs.Said.{why_in}
use Rattle.trigger.proofs.Draws.{spot_is, field_stored}
use Rattle.segment.specs.Values.{value_text}
use native.Mathlib.Omega.{arith}
use lib.ListN.{length}
use Prim.Native.Nat.{◌≤◌}
use Rattle.lent.proofs.Fit.{wide}
use Rattle.nest.specs.Finding.{field}
use Rattle.nest.specs.Job.{job_by}
use Rattle.trigger.specs.Drawn.{trigger_of}
use Rattle.emit.specs.Puts.{place_of}
use Rattle.trigger.proofs.opener.note_field.Goals as goal
use Rattle.trigger.proofs.opener.note_field.Goals.{Start}

pub returns : goal.returns
returns c =
    let a = c.args in
    let w = a.w.now in
    let h : length a.findings.now ≤ wide = omega (arith, (goal.at.returns c).Start) in
    let s = spot_is (trigger_of w) w.name a.f a.p w.name_is in
    field_stored (job_by w.job) (trigger_of w) (value_text w.job.at.bytes.now a.src.given.value) a.f a.p (why_in a.src.given.reason) a.src.checked w.delimiters w.delimiters_are h (c.try_checked-a.ensures (field a.f) (place_of (trigger_of w) a.p None) s) (c.note_reason.ensures (field a.f) (place_of (trigger_of w) a.p None) s)
