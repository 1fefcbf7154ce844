use Rattle.paths.proofs.BelowLaws.{counted_none}
use Rattle.paths.proofs.below.how_often.Goals as goal

pub loop-i-init : goal.loop-i-init
loop-i-init g c = counted_none _ _
