use Rattle.paths.proofs.Answers.{anchored_in}
use Rattle.paths.proofs.repeats.anchored.Goals as goal

pub returns : goal.returns
returns c = anchored_in _ _ _ _ _ c.source.ensures c.source_anchored.ensures
