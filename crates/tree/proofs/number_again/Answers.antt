use lib.Dec.{eqb}
use Rattle.std.proofs.Common.{rules}
use Rattle.says.proofs.Behind.{rest_says}
use Rattle.tree.proofs.Tree.{again_says, member_any}
use Rattle.tree.proofs.number_again.Goals as goal

pub returns : goal.returns
returns c = again_says _ _ _ _ _ _ _ c.count_at-x.ensures.0 (rest_says _ _ _ _ _ _ _ _ (c.any_rest.ensures.says (eqb c.count_at-x.result) (λ p r h q. search rules)) (member_any _))
