use Rattle.std.proofs.Common.{refl}
use Rattle.texts.specs.Held.{held}
use Rattle.texts.proofs.Text.empty.Goals as goal

pub returns : goal.returns
unfolding held
returns c = refl
