use Rattle.segment.proofs.Texts.{text_own}
use Rattle.segment.proofs.own.Goals as goal

pub returns-clause-text : goal.returns-clause-text
returns-clause-text c = λ job. text_own job c.args.bytes c.args.count
