use Rattle.tree.proofs.Tree.{outside_says}
use Rattle.tree.proofs.outside_at.Goals as goal

pub returns-clause-says : goal.returns-clause-says
returns-clause-says c = outside_says _ _ _ _ _ c.count_at.ensures.0
