use Rattle.trigger.proofs.Draws.{adds_as, control_put, other_put}
use mathlib.Core.Path.{◌≡◌, ◌∙◌}
use Rattle.texts.specs.Pad.{control_text}
use Rattle.segment.specs.Values.{value_text}
use Rattle.format.specs.Ask.{depth_of}
use Rattle.spec.specs.Answers.{rule_of}
use Rattle.nest.specs.Job.{job_by}
use Rattle.emit.specs.Envelope.{control_in}
use Rattle.trigger.specs.Drawn.{trigger_of}
use Rattle.trigger.proofs.opener.put_element.Goals as goal

pub returns-then-x-w : goal.returns-then-x-w
returns-then-x-w c = λ y h m.
    let a = c.args in
    let w = a.w.now in
    let text : value_text w.job.at.bytes.now c.control_value-value.result ≡ control_text w.number y.1.min = rw (← h.min, ← c.width_of.ensures) (c.control_value-value.ensures w.job.at.bytes.now) in
    adds_as (control_put (job_by w.job) w.l.0 w.number (rule_of w.rule) y a.x.number _ h.number c.if-x-w.true text m) c.put_text.ensures

pub returns : goal.returns
returns c = λ y h m. let w = c.args.w.now in let t = rw (w.id_is.bytes, w.depth_is) at (c.source_of-src.ensures y h) in adds_as (other_put (job_by w.job) (trigger_of w) (control_in (job_by w.job) w.l.0 (rule_of w.rule) w.number) (depth_of (job_by w.job) w.l.0) w.rule.opener y (λ q. c.if-x-w.false (h.number ∙ q))) (c.put_source.ensures y _ h t)
