use Rattle.std.proofs.Common.{rules}
use Rattle.format.specs.Refusal.{foreign}
use Rattle.marks.specs.Parts.{high}
use Rattle.marks.proofs.foreign_at.Goals as goal

pub returns : goal.returns
unfolding foreign
returns c = c.any_at.ensures.says high (λ p r h q. search rules)
