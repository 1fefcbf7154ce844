use Rattle.trigger.proofs.Givens.{held_is, held_none, holds_as}
use Rattle.trigger.proofs.given.application.Goals as goal

pub returns-in-Some : goal.returns-in-Some
returns-in-Some c = λ x h. held_is _ _ _ _ h _ c.in-Some.is

pub returns-in-None : goal.returns-in-None
returns-in-None c = λ x h. holds_as (held_none _ _ _ _ h c.in-None.is) c.trim_end.ensures
