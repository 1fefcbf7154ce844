use Rattle.codes.proofs.Whole.{rules_decided}
use Rattle.codes.proofs.rules_fit.Goals as goal

pub returns : goal.returns
returns c = rules_decided _ c.requires _ _ c.spec_of.ensures.1 (rw c.spec_of.ensures.0 at c.loops_wrong.ensures)
