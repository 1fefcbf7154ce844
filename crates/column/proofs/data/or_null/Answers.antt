use Rattle.column.proofs.Read.{null_for_none, kept_there}
use Rattle.column.proofs.data.or_null.Goals as goal

pub returns-in-None : goal.returns-in-None
returns-in-None c = λ b x h. null_for_none b x (rw c.in-None.is at h)

pub returns-in_default : goal.returns-in_default
returns-in_default c = λ b. kept_there b _ c.in_default.not-None
