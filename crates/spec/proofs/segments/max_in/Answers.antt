use Rattle.spec.proofs.Found.{element_sized}
use Rattle.spec.proofs.segments.max_in.Goals as goal

pub max_at-requires : goal.max_at-requires
max_at-requires c = element_sized _ _ _ c.requires
