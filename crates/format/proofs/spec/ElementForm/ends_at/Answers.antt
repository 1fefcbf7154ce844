use Rattle.format.specs.Spec.{element_c}
use Rattle.codec.proofs.Skip.{skip_map, skip_pair}
use Rattle.format.proofs.spec.ElementForm.ends_at.Goals as goal

pub returns : goal.returns
unfolding element_c
returns c = simp (skip_map, skip_pair) (cc)
