use Rattle.format.proofs.Fields.{is_control}
use Rattle.format.specs.Refusal.{over_control}
use Rattle.says.proofs.Walk.{both, only, says_at}
use Rattle.codec.proofs.Joined.{or_pick, pick_pick}
use mathlib.Core.Path.{refl}
use Rattle.limits.proofs.control_over.Goals as goal

pub returns : goal.returns
unfolding over_control
returns c v i = let l = is_control _ _ _ v i in simp (or_pick, pick_pick) (both _ _ _ _ _ refl (says_at _ _ _ _ _ _ _ _ c.large_at-x.ensures l.opener (cc)) (both _ _ _ _ _ refl (says_at _ _ _ _ _ _ _ _ c.large_at-y.ensures l.closer (cc)) (only _ _ (says_at _ _ _ _ _ _ _ _ c.large_at-z.ensures l.count (cc)))))
