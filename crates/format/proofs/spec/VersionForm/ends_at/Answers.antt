use Rattle.format.specs.Spec.{version_c}
use Rattle.codec.proofs.Skip.{skip_map, skip_pair}
use Rattle.format.proofs.spec.VersionForm.ends_at.Goals as goal

pub returns : goal.returns
unfolding version_c
returns c = simp (skip_map, skip_pair) (cc)
