use Rattle.std.proofs.Common.{arith, refl, ◌∙◌}
use Rattle.codec.proofs.Ways.{case_some, case_none, case_before, case_behind}
use Rattle.format.proofs.Ends.{values_binary, values_int, values_decimal, values_days, values_bad}
use Rattle.format.proofs.data.CellsForm.ends_at.Goals as goal
use Rattle.format.proofs.data.CellsForm.ends_at.Goals.{in_default-via-in-Some+else-t-lt5, in_default-via-in_default}

pub overflow_add-at : goal.overflow_add-at
overflow_add-at c = omega (arith, case_before _ _ _ _ c.case.ensures _ c.in-Some-eq0.is)

pub overflow_add-at-in-Some-eq1 : goal.overflow_add-at-in-Some-eq1
overflow_add-at-in-Some-eq1 c = omega (arith, case_before _ _ _ _ c.case.ensures _ c.in-Some-eq1.is)

pub overflow_add-at-in-Some-eq2 : goal.overflow_add-at-in-Some-eq2
overflow_add-at-in-Some-eq2 c = omega (arith, case_before _ _ _ _ c.case.ensures _ c.in-Some-eq2.is)

pub overflow_add-at-in-Some : goal.overflow_add-at-in-Some
overflow_add-at-in-Some c = omega (arith, case_before _ _ _ _ c.case.ensures _ c.in-Some.is)

pub returns-in-Some-eq0 : goal.returns-in-Some-eq0
returns-in-Some-eq0 c = values_binary _ _ _ _ _ (case_some _ _ _ _ c.case.ensures _ c.in-Some-eq0.is) (case_behind _ _ _ _ c.case.ensures _ c.in-Some-eq0.is) _ (cc) (omega (arith, c.in-Some-eq0.field-0-test))

pub returns-in-Some-eq1 : goal.returns-in-Some-eq1
returns-in-Some-eq1 c = values_int _ _ _ _ _ (case_some _ _ _ _ c.case.ensures _ c.in-Some-eq1.is) (case_behind _ _ _ _ c.case.ensures _ c.in-Some-eq1.is) _ (cc) (omega (arith, c.in-Some-eq1.field-0-test)) (omega (arith, c.in-Some-eq1.field-0-test))

pub returns-in-Some-eq2 : goal.returns-in-Some-eq2
returns-in-Some-eq2 c = values_decimal _ _ _ _ _ (case_some _ _ _ _ c.case.ensures _ c.in-Some-eq2.is) (case_behind _ _ _ _ c.case.ensures _ c.in-Some-eq2.is) _ (cc) (omega (arith, c.in-Some-eq2.field-0-test)) (omega (arith, c.in-Some-eq2.field-0-test))

pub returns-in-Some : goal.returns-in-Some
returns-in-Some c = values_days _ _ _ _ _ (case_some _ _ _ _ c.case.ensures _ c.in-Some.is) (case_behind _ _ _ _ c.case.ensures _ c.in-Some.is) _ c.les_at-in-Some.ensures (omega (arith, c.in-Some.t-test)) c.if-t-lt5.true

pub returns-in_default : goal.returns-in_default
returns-in_default c = elim c.in_default.branch [
  | in_default-via-in-Some+else-t-lt5 w ↦ c.past.ensures ∙ values_bad _ _ _ _ _ (case_some _ _ _ _ c.case.ensures _ w.in-Some.is) refl w.if-t-lt5.false
  | in_default-via-in_default w ↦ c.past.ensures ∙ values_bad _ _ _ _ _ (case_none _ _ _ _ c.case.ensures w.in_default.is) refl (omega arith)
]
