use Rattle.tree.proofs.Tree.{same_says}
use Rattle.tree.proofs.same_at.Goals as goal

pub returns-clause-says : goal.returns-clause-says
returns-clause-says c = same_says _ _ _ _ _ c.count_at.ensures.0
