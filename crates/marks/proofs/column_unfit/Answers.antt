use native.Mathlib.Omega.{arith}
use mathlib.Core.Path.{refl}
use Rattle.codec.proofs.Ways.{case_some, case_none}
use Rattle.format.proofs.Fields.{is_column}
use Rattle.format.specs.Refusal.{unfit_column}
use Rattle.marks.proofs.Marks.{scale_int, scale_wide, scale_none}
use Rattle.marks.proofs.column_unfit.Goals as goal

pub returns-in-Some-eq1 : goal.returns-in-Some-eq1
unfolding unfit_column
returns-in-Some-eq1 c v i = scale_int _ _ _ _ (case_some _ _ _ _ c.case.ensures _ c.in-Some-eq1.is) _ _ _ c.in-Some-eq1.field-0-test c.le_at-p.ensures c.les_at.ensures c.byte_at.ensures.0 _ (is_column _ _ _ v i).values

pub returns-in-Some-eq2 : goal.returns-in-Some-eq2
unfolding unfit_column
returns-in-Some-eq2 c v i = scale_wide _ _ _ _ (case_some _ _ _ _ c.case.ensures _ c.in-Some-eq2.is) _ _ _ c.in-Some-eq2.field-0-test c.le_at-p.ensures c.les_at-in-Some-eq2.ensures c.byte_at-in-Some-eq2.ensures.0 _ (is_column _ _ _ v i).values

pub returns-in_default : goal.returns-in_default
unfolding unfit_column
returns-in_default c v i = let e = case_some _ _ _ _ c.in_default.ensures _ refl in scale_none _ _ _ _ e c.in_default.field-0-test.0.1 c.in_default.field-0-test.1 _ (is_column _ _ _ v i).values

pub returns-in_default-2 : goal.returns-in_default-2
unfolding unfit_column
returns-in_default-2 c v i = let e = case_none _ _ _ _ c.case.ensures c.in_default.is in scale_none _ _ _ _ e (λ h. omega (arith, h)) (λ h. omega (arith, h)) _ (is_column _ _ _ v i).values
