use lib.ListN.{replicate}
use Rattle.segment.proofs.Texts.{text_held}
use Rattle.segment.proofs.held.Goals as goal

pub returns-clause-text : goal.returns-clause-text
returns-clause-text c = λ job. text_held job (replicate 48 0) c.args.start c.args.len
