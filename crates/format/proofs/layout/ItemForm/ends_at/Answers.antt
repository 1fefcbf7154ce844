use Rattle.std.proofs.Common.{arith, refl, ◌∙◌}
use Rattle.codec.proofs.Ways.{case_some, case_none, case_before, case_behind}
use Rattle.format.proofs.Ends.{item_is, item_bad}
use Rattle.format.proofs.layout.ItemForm.ends_at.Goals as goal
use Rattle.format.proofs.layout.ItemForm.ends_at.Goals.{in_default-via-in-Some+else-t-lt2, in_default-via-in_default}

pub overflow_add-at : goal.overflow_add-at
overflow_add-at c = omega (arith, case_before _ _ _ _ c.case.ensures _ c.in-Some.is)

pub returns-in-Some : goal.returns-in-Some
returns-in-Some c = item_is _ _ _ _ _ (case_some _ _ _ _ c.case.ensures _ c.in-Some.is) (case_behind _ _ _ _ c.case.ensures _ c.in-Some.is) _ c.le_at.ensures c.if-t-lt2.true

pub returns-in_default : goal.returns-in_default
returns-in_default c = elim c.in_default.branch [
  | in_default-via-in-Some+else-t-lt2 w ↦ c.past.ensures ∙ item_bad _ _ _ _ _ (case_some _ _ _ _ c.case.ensures _ w.in-Some.is) refl w.if-t-lt2.false
  | in_default-via-in_default w ↦ c.past.ensures ∙ item_bad _ _ _ _ _ (case_none _ _ _ _ c.case.ensures w.in_default.is) refl (omega arith)
]
