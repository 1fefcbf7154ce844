use Rattle.places.proofs.Turning.{trigger_is}
use Rattle.places.proofs.triggers.trigger_of.Goals as goal

pub returns : goal.returns
returns c = trigger_is _ _ _ _ _ c.depth.ensures c.repetition.ensures.says _ c.is_some.ensures
