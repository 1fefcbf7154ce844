use Rattle.format.specs.Spec.{control_c}
use Rattle.codec.proofs.Skip.{skip_map, skip_pair}
use Rattle.format.proofs.Ends.{skip_counted}
use Rattle.format.proofs.spec.ControlForm.ends_at.Goals as goal

pub returns : goal.returns
unfolding control_c
returns c = simp (skip_map, skip_pair, skip_counted) (cc)
