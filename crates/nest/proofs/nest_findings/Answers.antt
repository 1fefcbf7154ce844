use native.Mathlib.Omega.{arith}
use Rattle.nest.proofs.Lacking.{findings_both}
use Rattle.nest.proofs.nest_findings.Goals as goal
use Rattle.nest.proofs.nest_findings.Goals.{Start}

pub returns : goal.returns
returns c = findings_both _ _ _ _ _ _ _ (omega (arith, (goal.at.returns c).Start)) c.all_duplicates-next.ensures c.all_findings.ensures
