use Rattle.codec.proofs.Skip.{skip_map, skip_pair}
use Rattle.format.proofs.Fields.{is_table_data_lem}
use Rattle.format.specs.Data.{table_data_c}
use Rattle.format.specs.Refusal.{over_table_data}
use Rattle.says.proofs.Walk.{long_is, long_not}
use Rattle.says.proofs.Pass.{is_found, is_clear}
use Rattle.limits.proofs.table_data_over.Goals as goal

pub returns-then-count_at-gt32 : goal.returns-then-count_at-gt32
unfolding over_table_data
returns-then-count_at-gt32 c v i = is_found _ _ (long_is _ _ _ _ _ _ _ 32 c.count_at.ensures.0 (is_table_data_lem _ _ _ v i).columns (cc) c.if-count_at-gt32.true)

pub returns : goal.returns
unfolding over_table_data table_data_c
returns c v i = is_clear _ _ _ (long_not _ _ _ _ _ _ _ 32 c.count_at.ensures.0 (is_table_data_lem _ _ _ v i).columns (cc) c.if-count_at-gt32.false) (simp (skip_map, skip_pair) (cc))
