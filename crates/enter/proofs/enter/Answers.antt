use Rattle.emit.proofs.StepLaws.{did_stop}
use Rattle.enter.proofs.enter.Goals as goal

pub returns : goal.returns
returns c = λ d g. let a = c.args in did_stop _ a.l.0 a.t.0 a.r.0 _ _ _ c.raised-mark.result _ c.requires.0 c.note_order-noted.ensures c.put_words-at.ensures c.raised-mark.ensures
