use mathlib.Core.Path.{refl}
use Rattle.codes.specs.Rules.{low}
use Rattle.says.proofs.Walk.{number_is}
use Rattle.codes.proofs.rules.low_at.Goals as goal

pub returns : goal.returns
unfolding low
returns c v i = let z = number_is _ _ _ _ _ v c.count_at.ensures.0 refl i in rw z
