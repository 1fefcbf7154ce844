use Rattle.paths.proofs.Answers.{occurs_in}
use Rattle.paths.proofs.order.occurs.Goals as goal

pub returns : goal.returns
returns c = occurs_in _ _ _ _ _ c.occurrence_of.ensures c.occurrence_count.ensures
