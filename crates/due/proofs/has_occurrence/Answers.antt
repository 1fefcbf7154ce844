use Rattle.due.proofs.Loops.{occurs}
use Rattle.due.proofs.has_occurrence.Goals as goal

pub returns : goal.returns
returns c = occurs _ _ _ _ _ c.requires.segment.occurrence c.occurrence_count-n.ensures
