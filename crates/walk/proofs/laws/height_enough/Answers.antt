use Rattle.walk.proofs.Height.{height_enough, data-enough}
use Rattle.walk.proofs.laws.height_enough.Goals as goal

pub returns : goal.returns
returns c = record { walk = height_enough; data-below = data-enough }
