use Rattle.instances.proofs.Stretches.{same_stretch}
use Rattle.instances.proofs.stretch.stretch.Goals as goal

pub returns : goal.returns
returns c = λ o g. same_stretch o _ _ c.requires.2 _ _ c.first_at-low.ensures c.first_near-high.ensures g
