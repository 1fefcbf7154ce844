use Rattle.trigger.proofs.Laws.{control_is}
use Rattle.trigger.proofs.number.control_in.Goals as goal

pub returns : goal.returns
returns c = λ k h. control_is _ _ _ _ _ _ _ c.trigger-id.ensures.bytes c.min_of-min.ensures (rw c.width_of.ensures at (c.control_value.ensures c.args.job.at.bytes.now)) k h
