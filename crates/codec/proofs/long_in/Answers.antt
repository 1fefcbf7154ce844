use Rattle.codec.proofs.Ways.{le_eight}
use Rattle.codec.proofs.long_in.Goals as goal

pub returns : goal.returns
returns c = cc (le_eight _ _)
