use mathlib.Core.Path.{refl, ◌∙◌}
use Rattle.codec.proofs.Skip.{skip_map, skip_pair}
use Rattle.codec.proofs.Maps.{is_bytes_map}
use Rattle.codec.proofs.Limits.{any_nil}
use Rattle.format.proofs.Fields.{is_spec}
use Rattle.format.specs.Spec.{spec_c}
use Rattle.format.specs.Refusal.{unfit_spec}
use Rattle.says.proofs.Walk.{says_be}
use Rattle.says.proofs.Pass.{is_found, is_clear, any_here, any_later, any_not, told_none, told_some, skip_bytes_map_list}
use Rattle.marks.proofs.spec_unfit.Goals as goal

pub returns-in_err-roots : goal.returns-in_err-roots
unfolding unfit_spec
returns-in_err-roots c v i = c.from_residual.ensures ∙ is_found _ _ (any_here _ _ (told_none _ _ _ _ _ _ _ _ c.loops_unfit.ensures (is_spec _ _ _ v i).loops (refl) c.in_err-roots.was))

pub returns-in_err-tables : goal.returns-in_err-tables
unfolding unfit_spec
returns-in_err-tables c v i =
    let l = is_spec _ _ _ v i in
    let k = told_some _ _ _ _ _ _ _ _ c.loops_unfit.ensures l.loops (refl) _ c.in_ok-roots.was in
    c.from_residual-in_err-tables.ensures ∙ is_found _ _ (any_later _ _ (any_here _ _ (told_none _ _ _ _ _ _ _ _ c.segments_unfit.ensures (is_bytes_map _ _ _ _ _ l.segments).0 (cc k.1) c.in_err-tables.was)))

pub returns-then-opt_version_unfit : goal.returns-then-opt_version_unfit
unfolding unfit_spec
returns-then-opt_version_unfit c v i =
    let l = is_spec _ _ _ v i in
    let k = told_some _ _ _ _ _ _ _ _ c.loops_unfit.ensures l.loops (refl) _ c.in_ok-roots.was in
    let m = told_some _ _ _ _ _ _ _ _ c.segments_unfit.ensures (is_bytes_map _ _ _ _ _ l.segments).0 (cc k.1) _ c.in_ok-tables.was in
    let n = m.1 ∙ skip_bytes_map_list _ _ _ _ _ l.segments in
    is_found _ _ (any_later _ _ (any_later _ _ (any_here _ _ (says_be _ _ _ _ _ _ _ _ _ c.opt_version_unfit.ensures c.if-opt_version_unfit.true l.version (cc n)))))

pub returns : goal.returns
unfolding unfit_spec spec_c
returns c v i =
    let l = is_spec _ _ _ v i in
    let k = told_some _ _ _ _ _ _ _ _ c.loops_unfit.ensures l.loops (refl) _ c.in_ok-roots.was in
    let m = told_some _ _ _ _ _ _ _ _ c.segments_unfit.ensures (is_bytes_map _ _ _ _ _ l.segments).0 (cc k.1) _ c.in_ok-tables.was in
    let n = m.1 ∙ skip_bytes_map_list _ _ _ _ _ l.segments in
    is_clear _ _ _ (any_not _ _ k.0 (any_not _ _ m.0 (any_not _ _ (says_be _ _ _ _ _ _ _ _ _ c.opt_version_unfit.ensures c.if-opt_version_unfit.false l.version (cc n)) any_nil))) (simp (skip_map, skip_pair) (cc n))
