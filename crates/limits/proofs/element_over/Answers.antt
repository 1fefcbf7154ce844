use mathlib.Core.Path.{◌∙◌}
use Rattle.codec.proofs.Skip.{skip_map, skip_pair}
use Rattle.codec.proofs.Maps.{is_num_map}
use Rattle.codec.proofs.Field.{is_pair}
use Rattle.codec.proofs.Limits.{any_nil}
use Rattle.format.proofs.Fields.{is_element}
use Rattle.format.specs.Spec.{element_c}
use Rattle.format.specs.Refusal.{over_element}
use Rattle.says.proofs.Pass.{is_found, is_clear, any_here, any_not, told_none, told_some, skip_num_map_list}
use Rattle.limits.proofs.Sized.{joined, later, parted, told_over, told_behind}
use Rattle.limits.proofs.element_over.Goals as goal

pub returns-in_err-max : goal.returns-in_err-max
unfolding over_element
returns-in_err-max c v i =
    let t = is_pair _ _ _ _ _ v i in
    let l = is_element _ _ _ _ t.1 in
    c.from_residual.ensures ∙ is_found _ _ (joined _ _ _ (told_over _ _ _ (c.sized_over.ensures _ _ t.0 l.min) c.in_err-max.was))

pub returns-in_err-codes : goal.returns-in_err-codes
unfolding over_element
returns-in_err-codes c v i =
    let t = is_pair _ _ _ _ _ v i in
    let l = is_element _ _ _ _ t.1 in
    let m = told_behind _ _ _ _ (c.sized_over.ensures _ _ t.0 l.min) c.in_ok-max.was in
    c.from_residual-in_err-codes.ensures ∙ is_found _ _ (later _ _ _ (any_here _ _ (told_none _ _ _ _ _ _ _ _ c.components_over.ensures (is_num_map _ _ _ _ _ l.components).0 m.1 c.in_err-codes.was)))

pub returns : goal.returns
unfolding over_element element_c
returns c v i =
    let t = is_pair _ _ _ _ _ v i in
    let l = is_element _ _ _ _ t.1 in
    let m = told_behind _ _ _ _ (c.sized_over.ensures _ _ t.0 l.min) c.in_ok-max.was in
    let k = told_some _ _ _ _ _ _ _ _ c.components_over.ensures (is_num_map _ _ _ _ _ l.components).0 m.1 _ c.in_ok-codes.was in
    let w = k.1 ∙ skip_num_map_list _ _ _ _ _ l.components in
    is_clear _ _ _ (parted _ _ _ m.0 (any_not _ _ k.0 any_nil)) (simp (skip_map, skip_pair) (cc w))
