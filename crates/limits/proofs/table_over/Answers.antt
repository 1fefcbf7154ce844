use Rattle.codec.proofs.Ways.{skip_flag}
use Rattle.codec.proofs.Skip.{skip_map, skip_pair}
use Rattle.codec.proofs.Limits.{any_nil}
use Rattle.format.proofs.Fields.{is_table}
use Rattle.format.specs.Spec.{table_c}
use Rattle.format.specs.Refusal.{over_table}
use Rattle.says.proofs.Walk.{above_is, above_not, says_be}
use Rattle.says.proofs.Pass.{is_found, is_clear, any_here, any_later, any_not}
use Rattle.limits.proofs.table_over.Goals as goal

pub returns-then-count_at-gt32 : goal.returns-then-count_at-gt32
unfolding over_table
returns-then-count_at-gt32 c v i = is_found _ _ (any_here _ _ (above_is _ _ _ _ _ _ 32 c.count_at.ensures.0 (is_table _ _ _ v i).columns (simp (skip_flag) (cc)) c.if-count_at-gt32.true))

pub returns-then-opt_step_over : goal.returns-then-opt_step_over
unfolding over_table
returns-then-opt_step_over c v i = is_found _ _ (any_later _ _ (any_here _ _ (says_be _ _ _ _ _ _ _ _ _ c.opt_step_over.ensures c.if-opt_step_over.true (is_table _ _ _ v i).repeat (simp (skip_flag) (cc)))))

pub returns : goal.returns
unfolding over_table table_c
returns c v i =
    let l = is_table _ _ _ v i in
    is_clear _ _ _ (any_not _ _ (above_not _ _ _ _ _ _ 32 c.count_at.ensures.0 l.columns (simp (skip_flag) (cc)) c.if-count_at-gt32.false) (any_not _ _ (says_be _ _ _ _ _ _ _ _ _ c.opt_step_over.ensures c.if-opt_step_over.false l.repeat (simp (skip_flag) (cc))) any_nil)) (simp (skip_map, skip_pair, skip_flag) (cc))
