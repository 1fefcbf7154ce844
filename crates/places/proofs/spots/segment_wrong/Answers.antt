use Rattle.codec.proofs.Field.{is_at}
use Rattle.format.proofs.Fields.{is_segment_plan}
use Rattle.says.proofs.Walk.{says_at}
use Rattle.places.proofs.Reading.{segment_is}
use Rattle.places.proofs.spots.segment_wrong.Goals as goal

pub returns : goal.returns
returns c v i =
    let l = is_segment_plan _ _ _ v i in
    segment_is _ v _ _ (says_at _ _ _ _ _ _ _ _ c.spots_wrong.ensures l.elements (cc)) (c.filled_at.ensures _ (is_at _ _ _ _ _ _ c.le_at-source.ensures l.source))
