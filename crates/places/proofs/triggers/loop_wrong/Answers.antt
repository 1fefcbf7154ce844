use Rattle.places.proofs.Turning.{loop_free, loop_ruled}
use Rattle.places.proofs.triggers.loop_wrong.Goals as goal

pub returns-in-None : goal.returns-in-None
returns-in-None c v i = loop_free _ _ v _ c.control.ensures c.in-None.is

pub returns-in-Some : goal.returns-in-Some
returns-in-Some c v i = loop_ruled _ _ v _ c.control.ensures _ _ c.in-Some.is (c.ruled_wrong.ensures v i)
