use Rattle.format.proofs.Ends.{skip_usage}
use Rattle.tree.proofs.children_at.Goals as goal

pub returns : goal.returns
returns c = simp (skip_usage) (cc)
