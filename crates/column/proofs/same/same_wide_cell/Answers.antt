use Rattle.column.proofs.Equal.{other_kind}
use Rattle.column.specs.Answers.{cell_at}
use Rattle.column.proofs.same.same_wide_cell.Goals as goal

pub returns-in-Wide : goal.returns-in-Wide
unfolding cell_at
returns-in-Wide c l = rw c.in-Wide.is c.same_wide.ensures

pub returns-in_default : goal.returns-in_default
returns-in_default c = other_kind _ _ c.in_default.not-Wide
