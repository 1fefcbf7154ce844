use Rattle.nest.proofs.Rising.{known_are, may_none, may_rising}
use Rattle.nest.proofs.keys.may_repeat.Goals as goal

pub returns-in-None : goal.returns-in-None
returns-in-None c = λ j w. may_none j _ _ (known_are j _ _ _ w c.known.ensures) c.in-None.is

pub returns-in-Rising : goal.returns-in-Rising
returns-in-Rising c = λ j w. may_rising j _ _ (known_are j _ _ _ w c.known.ensures) c.in-Rising.is
