use Rattle.lent.proofs.Laws.{stored_run}
use Rattle.lent.proofs.put_run.Goals as goal

pub returns : goal.returns
returns c =
    let a = c.args in
    stored_run a.d.now a.at a.b a.n c.fitting-fits.ensures c.fill.ensures c.more-2.ensures
