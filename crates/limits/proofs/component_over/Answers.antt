use mathlib.Core.Path.{◌∙◌}
use Rattle.codec.proofs.Skip.{skip_map, skip_pair}
use Rattle.codec.proofs.Field.{is_pair}
use Rattle.codec.proofs.Limits.{any_nil}
use Rattle.format.proofs.Fields.{is_component}
use Rattle.format.specs.Spec.{component_c}
use Rattle.format.specs.Refusal.{over_component}
use Rattle.says.proofs.Pass.{is_found, is_clear}
use Rattle.limits.proofs.Sized.{joined, parted, told_over, told_behind}
use Rattle.limits.proofs.component_over.Goals as goal

pub returns-in_err-max : goal.returns-in_err-max
unfolding over_component
returns-in_err-max c v i =
    let t = is_pair _ _ _ _ _ v i in
    let l = is_component _ _ _ _ t.1 in
    c.from_residual.ensures ∙ is_found _ _ (joined _ _ _ (told_over _ _ _ (c.sized_over.ensures _ _ t.0 l.min) c.in_err-max.was))

pub returns : goal.returns
unfolding over_component component_c
returns c v i =
    let t = is_pair _ _ _ _ _ v i in
    let l = is_component _ _ _ _ t.1 in
    let k = told_behind _ _ _ _ (c.sized_over.ensures _ _ t.0 l.min) c.in_ok-max.was in
    let w = k.1 in
    is_clear _ _ _ (parted _ _ _ k.0 any_nil) (simp (skip_map, skip_pair) (cc w))
