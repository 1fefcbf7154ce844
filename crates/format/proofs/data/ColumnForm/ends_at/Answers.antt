use Rattle.format.specs.Data.{column_c}
use Rattle.codec.proofs.Skip.{skip_map, skip_pair}
use Rattle.format.proofs.data.ColumnForm.ends_at.Goals as goal

pub returns : goal.returns
unfolding column_c
returns c = simp (skip_map, skip_pair) (cc)
