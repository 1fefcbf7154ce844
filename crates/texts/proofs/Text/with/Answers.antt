use Rattle.std.proofs.Common.{refl}
use Rattle.texts.specs.Held.{added}
use Rattle.texts.proofs.Text.with.Goals as goal

pub returns : goal.returns
unfolding added
returns c = (refl, refl)
