use Rattle.codec.proofs.Skip.{skip_map, skip_pair}
use Rattle.codec.proofs.Limits.{any_nil}
use Rattle.format.proofs.Fields.{is_element_plan}
use Rattle.format.specs.Plan.{element_plan_c}
use Rattle.format.specs.Refusal.{over_element_plan}
use Rattle.says.proofs.Walk.{says_be}
use Rattle.says.proofs.Pass.{is_found, is_clear, any_here, any_later, any_not}
use Rattle.limits.proofs.element_plan_over.Goals as goal

pub returns-then-large_at : goal.returns-then-large_at
unfolding over_element_plan
returns-then-large_at c v i = is_found _ _ (any_here _ _ (says_be _ _ _ _ _ _ _ _ _ c.large_at.ensures c.if-large_at.true (is_element_plan _ _ _ v i).element (cc)))

pub returns-then-opt_large_at : goal.returns-then-opt_large_at
unfolding over_element_plan
returns-then-opt_large_at c v i = is_found _ _ (any_later _ _ (any_here _ _ (says_be _ _ _ _ _ _ _ _ _ c.opt_large_at.ensures c.if-opt_large_at.true (is_element_plan _ _ _ v i).component (cc))))

pub returns : goal.returns
unfolding over_element_plan element_plan_c
returns c v i =
    let l = is_element_plan _ _ _ v i in
    is_clear _ _ _ (any_not _ _ (says_be _ _ _ _ _ _ _ _ _ c.large_at.ensures c.if-large_at.false l.element (cc)) (any_not _ _ (says_be _ _ _ _ _ _ _ _ _ c.opt_large_at.ensures c.if-opt_large_at.false l.component (cc)) any_nil)) (simp (skip_map, skip_pair) (cc))
