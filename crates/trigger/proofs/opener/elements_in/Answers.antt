use Rattle.trigger.proofs.Openers.{nowhere_entries, place_stands, place_entries}
use Rattle.trigger.proofs.opener.elements_in.Goals as goal

pub returns-in-None : goal.returns-in-None
returns-in-None c = nowhere_entries _ _ _ _ c.elements_of.ensures c.in-None.is

pub elements-requires : goal.elements-requires
elements-requires c = place_stands _ _ _ c.elements_of.ensures _ c.in-Some.is c.args.job.ready.segments.within

pub returns-in-Some : goal.returns-in-Some
returns-in-Some c = place_entries _ _ _ c.elements_of.ensures _ c.in-Some.is _ c.elements.ensures
