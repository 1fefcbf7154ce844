use Rattle.nest.proofs.Stored.{array_in}
use Rattle.nest.proofs.nest.Goals as goal

pub nest_findings-requires : goal.nest_findings-requires
nest_findings-requires c = array_in _ _ _ c.requires c.nest_rows.ensures
