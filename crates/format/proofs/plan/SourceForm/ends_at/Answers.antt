use Rattle.std.proofs.Common.{arith, refl, ◌∙◌}
use Rattle.codec.proofs.Ways.{case_some, case_none, case_before, case_behind}
use Rattle.format.proofs.Ends.{source_low, source_table_lem, source_bad}
use Rattle.format.proofs.plan.SourceForm.ends_at.Goals as goal
use Rattle.format.proofs.plan.SourceForm.ends_at.Goals.{in_default-via-in-Some-2+else-t-lt3, in_default-via-in_default}

pub overflow_add-result : goal.overflow_add-result
overflow_add-result c = omega (arith, case_before _ _ _ _ c.case.ensures _ c.in-Some.is)

pub overflow_add-at : goal.overflow_add-at
overflow_add-at c = omega (arith, case_before _ _ _ _ c.case.ensures _ c.in-Some.is)

pub returns-in-Some : goal.returns-in-Some
returns-in-Some c = source_low _ _ _ _ _ (case_some _ _ _ _ c.case.ensures _ c.in-Some.is) (case_behind _ _ _ _ c.case.ensures _ c.in-Some.is) c.if-t-lt1.true

pub returns-in-Some-2 : goal.returns-in-Some-2
returns-in-Some-2 c = source_table_lem _ _ _ _ _ (case_some _ _ _ _ c.case.ensures _ c.in-Some.is) (case_behind _ _ _ _ c.case.ensures _ c.in-Some.is) _ c.le_at.ensures (omega arith) c.if-t-lt3.true

pub returns-in_default : goal.returns-in_default
returns-in_default c = elim c.in_default.branch [
  | in_default-via-in-Some-2+else-t-lt3 w ↦ c.past.ensures ∙ source_bad _ _ _ _ _ (case_some _ _ _ _ c.case.ensures _ w.in-Some.is) refl w.if-t-lt3.false
  | in_default-via-in_default w ↦ c.past.ensures ∙ source_bad _ _ _ _ _ (case_none _ _ _ _ c.case.ensures w.in_default.is) refl (omega arith)
]
