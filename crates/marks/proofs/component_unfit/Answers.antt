use Rattle.codec.proofs.Skip.{skip_map, skip_pair}
use Rattle.codec.proofs.Field.{is_pair}
use Rattle.format.proofs.Fields.{is_component}
use Rattle.format.specs.Spec.{component_c}
use Rattle.format.specs.Refusal.{unfit_component}
use Rattle.says.proofs.Pass.{clears_at, clears_as}
use Rattle.marks.proofs.component_unfit.Goals as goal

pub returns : goal.returns
unfolding unfit_component component_c
returns c v i = clears_as _ _ _ _ (clears_at _ _ _ _ _ _ _ _ c.codes_unfit.ensures (is_component _ _ _ _ (is_pair _ _ _ _ _ v i).1).codes (cc)) (simp (skip_map, skip_pair) (cc))
