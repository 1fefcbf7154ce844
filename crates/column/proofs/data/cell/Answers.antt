use Rattle.column.specs.Cell.{cell_in}
use Rattle.column.proofs.data.cell.Goals as goal

pub returns : goal.returns
unfolding cell_in
returns c = λ e o l is. c.or_null.ensures _ _ (c.opt_get.ensures e o l is)
