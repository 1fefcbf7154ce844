use Rattle.std.proofs.Common.{rules}
use Rattle.codes.specs.Codes.{mark, marked}
use Rattle.codes.proofs.codes.text_marked.Goals as goal

pub returns : goal.returns
unfolding marked
returns c = c.any_at.ensures.says (mark c.args.m) (λ p r h q. search rules)
