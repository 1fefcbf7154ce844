use Rattle.format.specs.Spec.{table_c}
use Rattle.codec.proofs.Ways.{skip_flag}
use Rattle.codec.proofs.Skip.{skip_map, skip_pair}
use Rattle.spec.proofs.fill.table_into.Goals as goal

pub returns : goal.returns
unfolding table_c
returns c = (simp (skip_map, skip_pair, skip_flag) (cc), simp skip_flag (cc))
