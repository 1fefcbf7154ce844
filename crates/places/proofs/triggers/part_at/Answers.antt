use native.Mathlib.Omega.{arith}
use mathlib.Core.Path.{refl, sym}
use borrow.Author.Tests.{eq-eqb, ne_eqb}
use Rattle.format.proofs.Fields.{is_element_plan}
use Rattle.codec.proofs.Field.{is_at}
use Rattle.codec.proofs.Ways.{case_is, case_not}
use Rattle.says.proofs.Walk.{number_is, present_by}
use Rattle.places.proofs.Turning.{part_is}
use Rattle.places.proofs.triggers.part_at.Goals as goal

pub returns-then-e-n : goal.returns-then-e-n
returns-then-e-n c v i = let l = is_element_plan _ _ _ v i in
    part_is _ _ v _ _ (number_is _ _ _ _ _ _ c.count_at-e.ensures.0 refl l.element)
    (present_by _ _ _ _ _ (λ h. case_is _ _ _ _ c.case.ensures _ _ c.eq.ensures h) (λ h. case_not _ _ _ _ c.case.ensures _ _ c.eq.ensures h (omega arith)) _ (is_at _ _ _ _ _ _ (cc) l.component))
    (sym (rw (eq-eqb _ _ c.if-e-n.true)))

pub returns-else-e-n : goal.returns-else-e-n
returns-else-e-n c v i = let l = is_element_plan _ _ _ v i in
    part_is _ _ v _ _ (number_is _ _ _ _ _ _ c.count_at-e.ensures.0 refl l.element) refl (sym (rw (ne_eqb _ _ c.if-e-n.false)))
