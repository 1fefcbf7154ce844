use Rattle.lent.proofs.Laws.{stored_fit}
use lib.ListN.{drop}
use Rattle.lent.proofs.put_stretch.Goals as goal

pub returns : goal.returns
returns g c =
    let a = c.args in
    stored_fit a.d.now a.at (drop a.start a.source.now) a.len c.stretch_len-n.ensures c.fitting-fits.ensures c.copy.ensures c.more.ensures
