use lib.Dec.{eqb}
use Rattle.std.proofs.Common.{rules}
use Rattle.says.proofs.Walk.{says_as}
use Rattle.tree.proofs.Tree.{member_any}
use Rattle.tree.proofs.loops.member_at.Goals as goal

pub returns : goal.returns
returns c = says_as _ _ _ _ _ _ _ (c.any_at.ensures.says (eqb c.args.i) (λ p r h q. search rules)) (member_any _)
