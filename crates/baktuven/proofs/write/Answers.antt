use Rattle.baktuven.proofs.Windows.{found_of, wrote}
use Rattle.baktuven.proofs.write.Goals as goal

pub noted-requires : goal.noted-requires
noted-requires c = (c.first-front.ensures.findings, found_of _ _ _ c.first-front.ensures.values c.found.ensures)

pub returns : goal.returns
returns c = wrote _ _ _ _ _ _ _ _ _ _ _ _ c.first-front.ensures c.noted.ensures
