use Rattle.std.proofs.Common.{rules}
use Rattle.says.proofs.Walk.{says_as}
use Rattle.loops.specs.Parts.{again_in}
use Rattle.loops.proofs.Items.{repeats_again_in}
use Rattle.loops.proofs.order_searched.Goals as goal

pub returns : goal.returns
returns c = says_as _ _ _ _ _ _ _ (c.any_before.ensures.says again_in (λ p m q r h i j k. search rules)) repeats_again_in
