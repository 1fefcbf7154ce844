use Rattle.trigger.proofs.Draws.{adds_as, source_put_lem, source_none}
use Rattle.nest.specs.Job.{job_by}
use Rattle.trigger.specs.Drawn.{trigger_of}
use Rattle.trigger.proofs.opener.put_source.Goals as goal

pub returns-in-Some : goal.returns-in-Some
returns-in-Some c = λ y o h t. let a = c.args in adds_as (source_put_lem (job_by a.w.now.job) (trigger_of a.w.now) a.w.now.job.at.bytes.now o a.x.number y h.number _ (rw c.in-Some.is at t) _ (c.value_of-value.ensures y h)) c.put_text.ensures

pub returns-in-None : goal.returns-in-None
returns-in-None c = λ y o h t. let a = c.args in adds_as (source_none (job_by a.w.now.job) (trigger_of a.w.now) a.w.now.job.at.bytes.now o a.x.number y h.number (rw c.in-None.is at t)) (c.skip.ensures _ _ _)
