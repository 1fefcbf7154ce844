use Rattle.paths.proofs.Answers.{parent_there, parent_none}
use Rattle.paths.proofs.counts.parent_plain.Goals as goal

pub returns-in-Some : goal.returns-in-Some
returns-in-Some c = parent_there _ _ _ c.table_parent.ensures _ _ c.in-Some.is c.is_plain.ensures

pub returns-in-None : goal.returns-in-None
returns-in-None c = parent_none _ _ _ c.table_parent.ensures c.in-None.is
