use Rattle.std.proofs.Common.{rules}
use Rattle.says.proofs.Walk.{says_as}
use Rattle.places.specs.Spots.{fails, kind_by, room_by, step_by}
use Rattle.places.proofs.Reading.{spots_fail}
use Rattle.places.proofs.spots.spots_wrong.Goals as goal

pub returns : goal.returns
returns c = says_as _ _ _ _ _ _ _ (c.any_before.ensures.says (fails (kind_by c.args.filled) (step_by c.args.filled) (room_by c.args.filled)) (λ p m q r h i j k. search rules)) (spots_fail _ _ _)
