use Rattle.plan.proofs.Filled.{layout_into}
use Rattle.plan.proofs.index.layout_into.Goals as goal

pub returns : goal.returns
returns c = layout_into _ _ _ _ _ _ _ _ _ _ _ _ _ c.list_into-forced.ensures.0 c.list_into-columns.ensures.0 c.list_into-depth.ensures.0 c.list_into-capacity.ensures.0 c.list_into-forced.ensures.1 c.list_into-columns.ensures.1 c.list_into-depth.ensures.1 c.list_into-capacity.ensures.1 c.put.ensures c.list_into-forced.ensures.2 c.list_into-columns.ensures.2 c.list_into-depth.ensures.2 c.list_into-capacity.ensures.2
