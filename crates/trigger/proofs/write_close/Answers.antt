use Rattle.trigger.proofs.Laws.{close_uncontrolled, control_gone, control_there}
use Rattle.emit.proofs.DidLaws.{did_nothing}
use Rattle.trigger.proofs.write_close.Goals as goal

pub returns-in-None : goal.returns-in-None
returns-in-None c = λ f p high counter h. rw (close_uncontrolled _ _ _ _ _ _ (control_gone _ _ c.control.ensures c.in-None.is)) (did_nothing _ c.requires.0)

pub close_loop-requires : goal.close_loop-requires
close_loop-requires c = (c.requires.0, c.requires.1, control_there _ _ c.control.ensures _ c.in-Some.is)
