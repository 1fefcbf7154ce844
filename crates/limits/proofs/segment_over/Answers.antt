use mathlib.Core.Path.{sym, ◌∙◌}
use Rattle.codec.proofs.Skip.{skip_pair}
use Rattle.codec.proofs.Maps.{is_num_map}
use Rattle.codec.proofs.Field.{is_pair}
use Rattle.format.specs.Refusal.{over_segment}
use Rattle.says.proofs.Pass.{clears_at, clears_as, skip_num_map_list}
use Rattle.limits.proofs.segment_over.Goals as goal

pub returns : goal.returns
unfolding over_segment
returns c v i = let t = is_pair _ _ _ _ _ v i in clears_as _ _ _ _ (clears_at _ _ _ _ _ _ _ _ c.elements_over.ensures (is_num_map _ _ _ _ _ t.1).0 (cc)) (skip_num_map_list _ _ _ _ _ t.1 ∙ sym (skip_pair _ _ _ _ _))
