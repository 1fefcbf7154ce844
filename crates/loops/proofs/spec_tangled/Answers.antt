use mathlib.Core.Path.{refl}
use Rattle.codec.proofs.Field.{is_at}
use Rattle.format.proofs.Fields.{is_spec}
use Rattle.says.proofs.Walk.{both, only, says_at}
use Rattle.loops.proofs.Forest.{children_tangle}
use Rattle.loops.specs.Parts.{tangled_spec}
use Rattle.codec.proofs.Joined.{or_pick, pick_pick}
use Rattle.loops.proofs.spec_tangled.Goals as goal

pub returns-then-loops_repeat : goal.returns-then-loops_repeat
returns-then-loops_repeat c v i = children_tangle v _ (c.loops_repeat.ensures _ (is_spec _ _ _ v i).loops) c.if-loops_repeat.true

pub returns : goal.returns
unfolding tangled_spec
returns c v i = let l = is_spec _ _ _ v i in simp (or_pick, pick_pick) (both _ _ _ _ _ refl (c.disagreements.ensures _ l.loops _ l.loops) (both _ _ _ _ _ refl (c.rings.ensures _ l.loops _ l.loops) (only _ _ (says_at _ _ _ _ _ _ _ _ (c.misroots.ensures _ (is_at _ _ _ _ _ _ c.requires l.roots)) l.loops refl))))
