use mathlib.Core.Path.{refl}
use Rattle.format.specs.Refusal.{over_data}
use Rattle.says.proofs.Walk.{both, more_than}
use Rattle.codec.proofs.Joined.{or_pick}
use Rattle.limits.proofs.data_over.Goals as goal

pub returns : goal.returns
unfolding over_data
returns c v i = simp or_pick (both _ _ _ _ _ refl (more_than _ _ _ _ _ _ _ 16 c.count_at.ensures.0 (refl) i) (c.table_datas_over.ensures v i))
