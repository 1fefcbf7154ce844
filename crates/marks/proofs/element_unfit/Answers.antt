use mathlib.Core.Path.{◌∙◌}
use Rattle.codec.proofs.Skip.{skip_map, skip_pair}
use Rattle.codec.proofs.Maps.{is_num_map}
use Rattle.codec.proofs.Field.{is_pair}
use Rattle.format.proofs.Fields.{is_element}
use Rattle.format.specs.Spec.{element_c}
use Rattle.format.specs.Refusal.{unfit_element}
use Rattle.says.proofs.Pass.{clears_at, clears_after, is_found, any_here, told_none, told_some, skip_num_map_list}
use Rattle.marks.proofs.element_unfit.Goals as goal

pub returns-in_err-components : goal.returns-in_err-components
unfolding unfit_element
returns-in_err-components c v i =
    let l = is_element _ _ _ _ (is_pair _ _ _ _ _ v i).1 in
    c.from_residual.ensures ∙ is_found _ _ (any_here _ _ (told_none _ _ _ _ _ _ _ _ c.components_unfit.ensures (is_num_map _ _ _ _ _ l.components).0 (cc) c.in_err-components.was))

pub returns : goal.returns
unfolding unfit_element element_c
returns c v i =
    let t = is_pair _ _ _ _ _ v i in
    let l = is_element _ _ _ _ t.1 in
    let k = told_some _ _ _ _ _ _ _ _ c.components_unfit.ensures (is_num_map _ _ _ _ _ l.components).0 (cc) _ c.in_ok-components.was in
    clears_after _ _ _ _ _ k.0 (clears_at _ _ _ _ _ _ _ _ c.codes_unfit.ensures l.codes (k.1 ∙ skip_num_map_list _ _ _ _ _ l.components)) (simp (skip_map, skip_pair) (cc))
