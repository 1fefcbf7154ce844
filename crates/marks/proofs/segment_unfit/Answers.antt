use mathlib.Core.Path.{refl, sym, ◌∙◌}
use Rattle.codec.proofs.Skip.{skip_pair}
use Rattle.codec.proofs.Maps.{is_num_map}
use Rattle.codec.proofs.Field.{is_pair}
use Rattle.format.specs.Refusal.{unfit_segment}
use Rattle.says.proofs.Walk.{says_be}
use Rattle.says.proofs.Pass.{clears_at, clears_after, is_found, any_here, skip_num_map_list}
use Rattle.marks.proofs.segment_unfit.Goals as goal

pub returns-then-unnamed_at : goal.returns-then-unnamed_at
unfolding unfit_segment
returns-then-unnamed_at c v i = is_found _ _ (any_here _ _ (says_be _ _ _ _ _ _ _ _ _ c.unnamed_at.ensures c.if-unnamed_at.true (is_pair _ _ _ _ _ v i).0 (refl)))

pub returns : goal.returns
unfolding unfit_segment
returns c v i =
    let t = is_pair _ _ _ _ _ v i in
    clears_after _ _ _ _ _ (says_be _ _ _ _ _ _ _ _ _ c.unnamed_at.ensures c.if-unnamed_at.false t.0 (refl)) (clears_at _ _ _ _ _ _ _ _ c.elements_unfit.ensures (is_num_map _ _ _ _ _ t.1).0 (cc)) (skip_num_map_list _ _ _ _ _ t.1 ∙ sym (skip_pair _ _ _ _ _))
