use Rattle.index.proofs.Filled.{filled}
use Rattle.index.proofs.fill_index.Goals as goal

pub returns : goal.returns
returns c = filled _ _ _ _ _ c.requires.0 c.requires.1 c.fill.ensures c.fill-2.ensures c.fill-3.ensures
