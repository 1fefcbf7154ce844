use Rattle.nest.proofs.Ways.{referred_row, referred_none}
use Rattle.nest.proofs.keys.referred.Goals as goal

pub returns-in_err-value : goal.returns-in_err-value
returns-in_err-value c = rw c.from_residual.ensures (referred_none _ _ _ _ _ c.reference.ensures c.in_err-value.was)

pub returns : goal.returns
returns c = referred_row _ _ _ _ _ c.reference.ensures _ _ c.in_ok-value.was c.first_row.ensures
