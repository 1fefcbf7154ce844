use mathlib.Core.Path.{refl}
use Rattle.codec.proofs.Field.{is_pair}
use Rattle.codes.specs.Maps.{low_component}
use Rattle.says.proofs.Walk.{says_at}
use Rattle.codes.proofs.maps.component_low.Goals as goal

pub returns : goal.returns
unfolding low_component
returns c v i = let t = is_pair _ _ _ _ _ v i in says_at _ _ _ _ _ _ _ _ c.low_at.ensures t.0 refl
