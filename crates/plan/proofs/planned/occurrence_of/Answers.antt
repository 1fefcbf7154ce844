use Rattle.plan.proofs.planned.occurrence_of.Goals as goal

pub returns : goal.returns
returns c = c.segment.ensures.segment.occurrence
