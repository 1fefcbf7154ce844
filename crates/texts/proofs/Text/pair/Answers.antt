use Rattle.std.proofs.Common.{add-one}
use Rattle.texts.specs.Held.{added}
use Rattle.texts.proofs.Text.pair.Goals as goal

pub returns : goal.returns
unfolding added
returns c = rw add-one
