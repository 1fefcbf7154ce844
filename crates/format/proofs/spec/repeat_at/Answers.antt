use Rattle.format.specs.Spec.{repeat_c}
use Rattle.codec.proofs.Skip.{skip_map, skip_pair}
use Rattle.format.proofs.spec.repeat_at.Goals as goal

pub returns : goal.returns
unfolding repeat_c
returns c = simp (skip_map, skip_pair) (cc)
