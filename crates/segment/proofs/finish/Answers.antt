use Rattle.segment.proofs.Strokes.{finished_none, finished_some, penned_none, penned_due}
use Rattle.segment.proofs.finish.Goals as goal

pub returns-then-c-lt2 : goal.returns-then-c-lt2
returns-then-c-lt2 c =
    let a = c.args in rw (finished_none a.s a.pen a.p a.c c.if-c-lt2.true) (penned_none a.pen c.stay.ensures)

pub returns : goal.returns
returns c =
    let a = c.args in rw (finished_some a.s a.pen a.p a.c c.if-c-lt2.false) (penned_due a.s a.pen a.p a.c c.put_due-a.ensures c.reach.ensures)
