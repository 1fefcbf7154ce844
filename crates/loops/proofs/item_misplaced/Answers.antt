use Rattle.std.proofs.Common.{rules}
use Rattle.format.specs.Refusal.{not_child}
use Rattle.loops.specs.Parts.{misplaced}
use Rattle.loops.proofs.item_misplaced.Goals as goal

pub returns : goal.returns
unfolding misplaced
returns c ls i = c.named_at.ensures.says (λ l. not_child ls l c.args.k) (λ p r h q. search rules)
