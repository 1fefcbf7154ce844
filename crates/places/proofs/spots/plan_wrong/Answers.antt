use Rattle.format.proofs.Fields.{is_loop_plan}
use Rattle.says.proofs.Walk.{says_at}
use Rattle.places.specs.Spots.{wrong_plan}
use Rattle.places.proofs.spots.plan_wrong.Goals as goal

pub returns : goal.returns
unfolding wrong_plan
returns c v i = let l = is_loop_plan _ _ _ v i in says_at _ _ _ _ _ _ _ _ c.segments_wrong.ensures l.segments (cc)
