use mathlib.Core.Path.{refl}
use Rattle.format.proofs.Fields.{is_version}
use Rattle.format.specs.Refusal.{unfit_version}
use Rattle.says.proofs.Walk.{both, only, says_at}
use Rattle.codec.proofs.Joined.{or_pick}
use Rattle.marks.proofs.version_unfit.Goals as goal

pub returns : goal.returns
unfolding unfit_version
returns c v i = let l = is_version _ _ _ v i in simp or_pick (both _ _ _ _ _ refl (says_at _ _ _ _ _ _ _ _ c.unnamed_at.ensures l.segment (refl)) (only _ _ (says_at _ _ _ _ _ _ _ _ c.foreign_at.ensures l.first (cc))))
