use Rattle.trigger.proofs.Names.{open_uncontrolled}
use Rattle.trigger.proofs.Laws.{control_gone, control_there}
use Rattle.emit.proofs.DidLaws.{did_nothing}
use Rattle.trigger.proofs.write_opener.Goals as goal

pub returns-in_default : goal.returns-in_default
returns-in_default c = λ p high counter b. rw (open_uncontrolled _ _ _ (control_gone _ _ c.control.ensures c.in_default.is)) (did_nothing _ c.requires.0)

pub returns : goal.returns
returns c = λ p. rw c.next_number-after.ensures (c.open_loop-counts.ensures p)

pub open_loop-counts-requires : goal.open_loop-counts-requires
open_loop-counts-requires c = (c.requires.0, c.requires.1, control_there _ _ c.control.ensures _ c.in-Some.is)
