use Rattle.places.proofs.Whole.{plan_few, alone_decided}
use Rattle.places.proofs.separators_alone.Goals as goal

pub loops_wrong-requires : goal.loops_wrong-requires
loops_wrong-requires c = rw c.plan_of.ensures.bytes (plan_few _ c.args.job.ready.passed c.requires _ _ c.start-at.ensures c.plan_of.ensures.end)

pub returns : goal.returns
returns c = alone_decided _ c.args.job.ready.passed _ _ _ c.start-at.ensures c.plan_of.ensures.end (rw (c.plan_of.ensures.bytes, c.plan_of.ensures.job) at c.loops_wrong.ensures)
