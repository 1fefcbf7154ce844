use Rattle.std.proofs.Common.{rules}
use Rattle.format.specs.Words.{repeats}
use Rattle.says.proofs.Walk.{says_as}
use Rattle.loops.specs.Parts.{repeats_below}
use Rattle.tree.proofs.ByNumber.{any_each, below_test}
use Rattle.loops.proofs.loops_repeat.Goals as goal

pub returns : goal.returns
returns c = says_as _ _ _ _ _ _ _ (c.some.ensures.says (λ i. repeats_below) (λ k p q r h t. below_test _ _ _ _ repeats _ h.below (search rules))) (any_each _ 0)
