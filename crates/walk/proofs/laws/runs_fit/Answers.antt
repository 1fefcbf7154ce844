use Rattle.walk.proofs.Runs.{fits_outside, fits_instances, run_inside}
use Rattle.walk.proofs.laws.runs_fit.Goals as goal

pub returns : goal.returns
returns c = record { start = fits_outside; kept = fits_instances; whole = run_inside }
