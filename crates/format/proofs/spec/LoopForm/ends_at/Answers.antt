use Rattle.format.specs.Spec.{loop_c}
use Rattle.codec.proofs.Skip.{skip_map, skip_pair}
use Rattle.format.proofs.Ends.{skip_usage}
use Rattle.format.proofs.spec.LoopForm.ends_at.Goals as goal

pub returns : goal.returns
unfolding loop_c
returns c = simp (skip_map, skip_pair, skip_usage) (cc)
