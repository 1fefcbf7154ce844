use Rattle.places.proofs.Whole.{segments_decided}
use Rattle.places.proofs.segments_fit.Goals as goal

pub returns : goal.returns
returns c = segments_decided _ c.args.job.ready.passed _ _ _ c.start-at.ensures c.plan_of.ensures.end (rw (c.plan_of.ensures.bytes, c.plan_of.ensures.job) at c.plans_wrong.ensures)
