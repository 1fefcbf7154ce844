use Rattle.due.proofs.Ways.{apart}
use Rattle.due.proofs.cells.differs.Goals as goal

pub returns : goal.returns
returns c = apart _ _ _ _ _ _ c.cell-x.ensures c.cell-y.ensures c.same.ensures.read
