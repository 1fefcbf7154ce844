use Rattle.format.specs.Data.{table_data_c}
use Rattle.codec.proofs.Skip.{skip_map, skip_pair}
use Rattle.format.proofs.data.TableDataForm.ends_at.Goals as goal

pub returns : goal.returns
unfolding table_data_c
returns c = simp (skip_map, skip_pair) (cc)
