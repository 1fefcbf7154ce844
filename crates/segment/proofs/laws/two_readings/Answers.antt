use Rattle.segment.proofs.Ambiguous.{two_readings}
use Rattle.segment.proofs.laws.two_readings.Goals as goal

pub returns : goal.returns
returns c = two_readings
