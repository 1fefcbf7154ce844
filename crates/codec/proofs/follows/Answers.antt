use Rattle.codec.specs.Strings.{ok_at}
use Rattle.codec.proofs.follows.Goals as goal

pub returns-in-None : goal.returns-in-None
unfolding ok_at
returns-in-None c = cc c.in-None.is

pub returns-in-Some : goal.returns-in-Some
unfolding ok_at
returns-in-Some c = cc (c.in-Some.is, c.less_at.ensures)
