use mathlib.Core.Path.{refl}
use Rattle.format.specs.Refusal.{large}
use Rattle.says.proofs.Walk.{more_num}
use Rattle.limits.proofs.large_at.Goals as goal

pub returns : goal.returns
unfolding large
returns c v i = more_num _ _ _ _ _ v 255 c.count_at.ensures.0 refl i
