use mathlib.Core.Path.{◌∙◌}
use Rattle.codec.proofs.Skip.{skip_map, skip_pair}
use Rattle.format.proofs.Fields.{is_table_data_lem}
use Rattle.format.specs.Data.{table_data_c}
use Rattle.format.specs.Refusal.{unfit_table_data}
use Rattle.says.proofs.Walk.{says_be}
use Rattle.says.proofs.Pass.{is_found, any_here, any_later, told_none, told_some, clears_at, clears_among, any_past, any_one}
use Rattle.marks.proofs.table_data_unfit.Goals as goal

pub returns-then-opt_column_unfit : goal.returns-then-opt_column_unfit
unfolding unfit_table_data
returns-then-opt_column_unfit c v i = is_found _ _ (any_here _ _ (says_be _ _ _ _ _ _ _ _ _ c.opt_column_unfit.ensures c.if-opt_column_unfit.true (is_table_data_lem _ _ _ v i).row (cc)))

pub returns-then-opt_column_unfit-2 : goal.returns-then-opt_column_unfit-2
unfolding unfit_table_data
returns-then-opt_column_unfit-2 c v i = is_found _ _ (any_later _ _ (any_here _ _ (says_be _ _ _ _ _ _ _ _ _ c.opt_column_unfit-2.ensures c.if-opt_column_unfit-2.true (is_table_data_lem _ _ _ v i).segment (cc))))

pub returns-in_err-refs : goal.returns-in_err-refs
unfolding unfit_table_data
returns-in_err-refs c v i = c.from_residual.ensures ∙ is_found _ _ (any_later _ _ (any_later _ _ (any_here _ _ (told_none _ _ _ _ _ _ _ _ c.references_unfit.ensures (is_table_data_lem _ _ _ v i).refs (cc) c.in_err-refs.was))))

pub returns : goal.returns
unfolding unfit_table_data table_data_c
returns c v i =
    let l = is_table_data_lem _ _ _ v i in
    let x = says_be _ _ _ _ _ _ _ _ _ c.opt_column_unfit.ensures c.if-opt_column_unfit.false l.row (cc) in
    let y = says_be _ _ _ _ _ _ _ _ _ c.opt_column_unfit-2.ensures c.if-opt_column_unfit-2.false l.segment (cc) in
    let k = told_some _ _ _ _ _ _ _ _ c.references_unfit.ensures l.refs (cc) _ c.in_ok-refs.was in
    clears_among _ _ _ _ _ (clears_at _ _ _ _ _ _ _ _ c.columns_unfit.ensures l.columns k.1) (any_past _ _ x ∙ any_past _ _ y ∙ any_past _ _ k.0 ∙ any_one _) (simp (skip_map, skip_pair) (cc))
