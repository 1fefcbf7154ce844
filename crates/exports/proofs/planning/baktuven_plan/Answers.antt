use Rattle.exports.proofs.planning.baktuven_plan.Goals as goal

pub returns : goal.returns
returns c = record { answer = _; judged = c.judge.ensures; number = c.plan_number.ensures }
