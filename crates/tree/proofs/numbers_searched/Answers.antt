use Rattle.std.proofs.Common.{rules}
use Rattle.says.proofs.Walk.{says_as}
use Rattle.tree.specs.Parts.{again}
use Rattle.tree.proofs.Tree.{repeats_again}
use Rattle.tree.proofs.numbers_searched.Goals as goal

pub returns : goal.returns
returns c = says_as _ _ _ _ _ _ _ (c.any_before.ensures.says again (λ p m q r h i j k. search rules)) repeats_again
