use Rattle.walk.proofs.CheckRight.{check_right}
use Rattle.walk.proofs.laws.check_right.Goals as goal

pub returns : goal.returns
returns c = check_right
