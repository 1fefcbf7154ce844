use Rattle.codec.proofs.Maps.{is_num_map}
use Rattle.codec.proofs.Field.{is_pair}
use Rattle.codes.specs.Maps.{low_segment}
use Rattle.says.proofs.Walk.{says_at}
use Rattle.codes.proofs.maps.segment_low.Goals as goal

pub returns : goal.returns
unfolding low_segment
returns c v i = let t = is_pair _ _ _ _ _ v i in says_at _ _ _ _ _ _ _ _ c.elements_low.ensures (is_num_map _ _ _ _ _ t.1).0 (cc)
