use Rattle.std.proofs.Common.{rules}
use Rattle.says.proofs.Walk.{says_as}
use Rattle.loops.specs.Parts.{misplaced}
use Rattle.loops.proofs.Items.{misplaced_any}
use Rattle.loops.proofs.items_misplaced.Goals as goal

pub returns : goal.returns
returns c ls q = says_as _ _ _ _ _ _ _ (c.any_at.ensures.says (misplaced ls c.args.k) (λ p r h j. search rules)) (misplaced_any ls c.args.k)
