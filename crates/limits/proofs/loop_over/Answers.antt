use Rattle.codec.proofs.Skip.{skip_map, skip_pair}
use Rattle.codec.proofs.Limits.{any_nil}
use Rattle.format.proofs.Ends.{skip_usage}
use Rattle.format.proofs.Fields.{is_loop}
use Rattle.format.specs.Spec.{loop_c}
use Rattle.format.specs.Refusal.{over_loop}
use Rattle.says.proofs.Walk.{long_is, long_not, says_be}
use Rattle.says.proofs.Pass.{is_found, is_clear, any_here, any_later, any_not}
use Rattle.limits.proofs.loop_over.Goals as goal

pub returns-then-count_at-gt32 : goal.returns-then-count_at-gt32
unfolding over_loop
returns-then-count_at-gt32 c v i = is_found _ _ (any_here _ _ (long_is _ _ _ _ _ _ _ 32 c.count_at.ensures.0 (is_loop _ _ _ v i).occurrences (cc) c.if-count_at-gt32.true))

pub returns-then-opt_control_over : goal.returns-then-opt_control_over
unfolding over_loop
returns-then-opt_control_over c v i = is_found _ _ (any_later _ _ (any_here _ _ (says_be _ _ _ _ _ _ _ _ _ c.opt_control_over.ensures c.if-opt_control_over.true (is_loop _ _ _ v i).control (simp (skip_usage) (cc)))))

pub returns : goal.returns
unfolding over_loop loop_c
returns c v i =
    let l = is_loop _ _ _ v i in
    is_clear _ _ _ (any_not _ _ (long_not _ _ _ _ _ _ _ 32 c.count_at.ensures.0 l.occurrences (cc) c.if-count_at-gt32.false) (any_not _ _ (says_be _ _ _ _ _ _ _ _ _ c.opt_control_over.ensures c.if-opt_control_over.false l.control (simp (skip_usage) (cc))) any_nil)) (simp (skip_map, skip_pair, skip_usage) (cc))
