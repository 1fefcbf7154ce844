use Rattle.format.proofs.Fields.{is_repeat}
use Rattle.format.specs.Refusal.{over_step}
use Rattle.says.proofs.Walk.{says_at}
use Rattle.limits.proofs.step_over.Goals as goal

pub returns : goal.returns
unfolding over_step
returns c v i = let l = is_repeat _ _ _ v i in (says_at _ _ _ _ _ _ _ _ c.large_at.ensures l.step (cc))
