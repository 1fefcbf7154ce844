use Rattle.format.specs.Spec.{spec_c}
use Rattle.codec.proofs.Skip.{skip_map, skip_pair}
use Rattle.format.proofs.spec.SpecForm.ends_at.Goals as goal

pub returns : goal.returns
unfolding spec_c
returns c = simp (skip_map, skip_pair) (cc)
