use Rattle.codec.proofs.Skip.{skip_map, skip_pair}
use Rattle.codec.proofs.Limits.{any_nil}
use Rattle.format.proofs.Ends.{skip_usage}
use Rattle.format.proofs.Fields.{is_loop}
use Rattle.format.specs.Spec.{loop_c}
use Rattle.format.specs.Refusal.{unfit_loop}
use Rattle.std.proofs.Common.{◌∙◌}
use Rattle.says.proofs.Walk.{says_be}
use Rattle.says.proofs.Pass.{is_found, is_clear, any_here, any_later, any_not, told_none, told_some}
use Rattle.marks.proofs.loop_unfit.Goals as goal

pub returns-then-unnamed_at : goal.returns-then-unnamed_at
unfolding unfit_loop
returns-then-unnamed_at c v i = is_found _ _ (any_here _ _ (says_be _ _ _ _ _ _ _ _ _ c.unnamed_at.ensures c.if-unnamed_at.true (is_loop _ _ _ v i).trigger (cc)))

pub returns-in_err-occurrences : goal.returns-in_err-occurrences
unfolding unfit_loop
returns-in_err-occurrences c v i = c.from_residual.ensures ∙ is_found _ _ (any_later _ _ (any_here _ _ (told_none _ _ _ _ _ _ _ _ c.names_unfit.ensures (is_loop _ _ _ v i).occurrences (cc) c.in_err-occurrences.was)))

pub returns-then-opt_unnamed_at : goal.returns-then-opt_unnamed_at
unfolding unfit_loop
returns-then-opt_unnamed_at c v i =
    let l = is_loop _ _ _ v i in
    let k = told_some _ _ _ _ _ _ _ _ c.names_unfit.ensures l.occurrences (cc) _ c.in_ok-occurrences.was in
    is_found _ _ (any_later _ _ (any_later _ _ (any_here _ _ (says_be _ _ _ _ _ _ _ _ _ c.opt_unnamed_at.ensures c.if-opt_unnamed_at.true l.end (simp (skip_usage) (cc k.1))))))

pub returns : goal.returns
unfolding unfit_loop loop_c
returns c v i =
    let l = is_loop _ _ _ v i in
    let k = told_some _ _ _ _ _ _ _ _ c.names_unfit.ensures l.occurrences (cc) _ c.in_ok-occurrences.was in
    let w = k.1 in
    is_clear _ _ _ (any_not _ _ (says_be _ _ _ _ _ _ _ _ _ c.unnamed_at.ensures c.if-unnamed_at.false l.trigger (cc)) (any_not _ _ k.0 (any_not _ _ (says_be _ _ _ _ _ _ _ _ _ c.opt_unnamed_at.ensures c.if-opt_unnamed_at.false l.end (simp (skip_usage) (cc k.1))) any_nil))) (simp (skip_map, skip_pair, skip_usage) (cc w))
