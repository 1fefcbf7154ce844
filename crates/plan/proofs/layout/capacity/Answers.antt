use Rattle.plan.proofs.Asking.{capacity_room, capacity_lacks, capacity_there, capacity_is}
use Rattle.plan.proofs.layout.capacity.Goals as goal

pub num_in-n-requires : goal.num_in-n-requires
num_in-n-requires c = capacity_room _ _ c.requires _ c.place-list.ensures.0

pub num_in-requires : goal.num_in-requires
num_in-requires c = capacity_there _ _ c.requires _ _ _ c.place-list.ensures.0 c.num_in-n.ensures.0 c.if-n-t.false

pub returns-then-n-t : goal.returns-then-n-t
returns-then-n-t c = capacity_lacks _ _ c.requires _ _ _ c.place-list.ensures.0 c.num_in-n.ensures.0 c.if-n-t.true

pub returns : goal.returns
returns c = capacity_is _ _ c.requires _ _ _ c.place-list.ensures.0 c.num_in-n.ensures.0 c.if-n-t.false _ c.num_in.ensures.0
