use Rattle.format.specs.Spec.{table_c}
use Rattle.codec.proofs.Skip.{skip_map, skip_pair}
use Rattle.codec.proofs.Ways.{skip_flag}
use Rattle.format.proofs.spec.TableForm.ends_at.Goals as goal

pub returns : goal.returns
unfolding table_c
returns c = simp (skip_map, skip_pair, skip_flag) (cc)
