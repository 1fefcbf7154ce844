use Rattle.paths.proofs.Answers.{kind_in_lem}
use Rattle.paths.proofs.counts.kind.Goals as goal

pub returns : goal.returns
returns c = kind_in_lem _ _ _ c.instances.ensures
