use Rattle.std.proofs.Common.{arith, refl, ◌∙◌}
use Rattle.codec.proofs.Ways.{case_some, case_none, case_before, case_behind}
use Rattle.format.proofs.Ends.{instances_low, instances_table, instances_high, instances_bad}
use Rattle.format.proofs.plan.InstancesForm.ends_at.Goals as goal
use Rattle.format.proofs.plan.InstancesForm.ends_at.Goals.{in_default-via-in-Some-3+else-t-lt6, in_default-via-in_default}

pub overflow_add-result : goal.overflow_add-result
overflow_add-result c = omega (arith, case_before _ _ _ _ c.case.ensures _ c.in-Some.is)

pub overflow_add-at : goal.overflow_add-at
overflow_add-at c = omega (arith, case_before _ _ _ _ c.case.ensures _ c.in-Some.is)

pub overflow_add-result-in-Some-3 : goal.overflow_add-result-in-Some-3
overflow_add-result-in-Some-3 c = omega (arith, case_before _ _ _ _ c.case.ensures _ c.in-Some.is)

pub returns-in-Some : goal.returns-in-Some
returns-in-Some c = instances_low _ _ _ _ _ (case_some _ _ _ _ c.case.ensures _ c.in-Some.is) (case_behind _ _ _ _ c.case.ensures _ c.in-Some.is) c.if-t-lt2.true

pub returns-in-Some-2 : goal.returns-in-Some-2
returns-in-Some-2 c = instances_table _ _ _ _ _ (case_some _ _ _ _ c.case.ensures _ c.in-Some.is) (case_behind _ _ _ _ c.case.ensures _ c.in-Some.is) _ c.le_at.ensures (omega arith) c.if-t-lt5.true

pub returns-in-Some-3 : goal.returns-in-Some-3
returns-in-Some-3 c = instances_high _ _ _ _ _ (case_some _ _ _ _ c.case.ensures _ c.in-Some.is) (case_behind _ _ _ _ c.case.ensures _ c.in-Some.is) (omega arith) c.if-t-lt6.true

pub returns-in_default : goal.returns-in_default
returns-in_default c = elim c.in_default.branch [
  | in_default-via-in-Some-3+else-t-lt6 w ↦ c.past.ensures ∙ instances_bad _ _ _ _ _ (case_some _ _ _ _ c.case.ensures _ w.in-Some.is) refl w.if-t-lt6.false
  | in_default-via-in_default w ↦ c.past.ensures ∙ instances_bad _ _ _ _ _ (case_none _ _ _ _ c.case.ensures w.in_default.is) refl (omega arith)
]
