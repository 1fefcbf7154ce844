use Rattle.std.proofs.Common.{arith, refl, sym, ap, ◌∙◌}
use Rattle.codec.specs.Skip.{skip}
use Rattle.codec.proofs.Skip.{skip_le}
use Rattle.codec.proofs.Ways.{skip_opt, tag_case, opt_none, opt_some, opt_bad, case_some, case_none}
use Rattle.codec.proofs.forms.OptForm.ends_at.Goals as goal
use Rattle.codec.proofs.forms.OptForm.ends_at.Goals.{in_default-via-in-Some+in_default, in_default-via-in_default}

pub overflow_add-result : goal.overflow_add-result
overflow_add-result g c = omega (arith, tag_case _ _ _ 0 (sym (case_some _ _ _ _ c.case.ensures _ c.in-Some-eq0.is) ∙ c.in-Some-eq0.field-0-test) (omega arith))

pub overflow_add-at : goal.overflow_add-at
overflow_add-at g c = omega (arith, tag_case _ _ _ 1 (sym (case_some _ _ _ _ c.case.ensures _ c.in-Some-eq1.is) ∙ c.in-Some-eq1.field-0-test) (omega arith))

pub returns-in-Some-eq0 : goal.returns-in-Some-eq0
returns-in-Some-eq0 g c = sym (skip_opt g.F.Form.codec _ _ _ ∙ opt_none _ _ _ _ (sym (case_some _ _ _ _ c.case.ensures _ c.in-Some-eq0.is) ∙ c.in-Some-eq0.field-0-test))

pub returns-in-Some-eq1 : goal.returns-in-Some-eq1
returns-in-Some-eq1 g c =
    let t = sym (case_some _ _ _ _ c.case.ensures _ c.in-Some-eq1.is) ∙ c.in-Some-eq1.field-0-test in
    let h = tag_case _ _ _ 1 t (omega arith) in
    c.ends_at.ensures ∙ sym (skip_opt g.F.Form.codec _ _ _ ∙ opt_some _ _ _ _ t ∙ ap (λ p. skip g.F.Form.codec c.args.s.bytes.now p c.args.s.end) (skip_le 1 _ _ _ (omega (arith, h))))

pub returns-in_default : goal.returns-in_default
returns-in_default g c = elim c.in_default.branch [
  | in_default-via-in-Some+in_default w ↦ let e = case_some _ _ _ _ w.in_default.ensures _ refl in c.past.ensures ∙ sym (skip_opt g.F.Form.codec _ _ _ ∙ opt_bad _ _ _ _ (λ h. w.in_default.field-0-test.0.1 (e ∙ h)) (λ h. w.in_default.field-0-test.1 (e ∙ h)))
  | in_default-via-in_default w ↦ let e = case_none _ _ _ _ c.case.ensures w.in_default.is in c.past.ensures ∙ sym (skip_opt g.F.Form.codec _ _ _ ∙ opt_bad _ _ _ _ (λ h. omega (arith, e, h)) (λ h. omega (arith, e, h)))
]
