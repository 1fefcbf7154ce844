use mathlib.Core.Path.{refl}
use Rattle.codec.proofs.Joined.{or_pick}
use Rattle.format.proofs.Fields.{is_loop}
use Rattle.format.specs.Refusal.{outside_loop}
use Rattle.says.proofs.Walk.{both, only, says_at}
use Rattle.tree.proofs.loop_outside.Goals as goal

pub returns : goal.returns
unfolding outside_loop
returns c v i =
    let l = is_loop _ _ _ v i in
    simp or_pick (both _ _ _ _ _ refl (says_at _ _ _ _ _ _ _ _ c.opt_outside_at.ensures.says l.parent refl) (only _ _ (says_at _ _ _ _ _ _ _ _ c.outsides_at.ensures.says l.children c.requires)))
