use Rattle.format.specs.Spec.{component_c}
use Rattle.codec.proofs.Skip.{skip_map, skip_pair}
use Rattle.format.proofs.spec.ComponentForm.ends_at.Goals as goal

pub returns : goal.returns
unfolding component_c
returns c = simp (skip_map, skip_pair) (cc)
