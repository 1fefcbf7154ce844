use native.Mathlib.Omega.{arith}
use mathlib.Core.Path.{refl, sym, ap, ◌∙◌}
use Rattle.codec.proofs.Ways.{case_some, case_none}
use Rattle.places.specs.Spots.{filled_of}
use Rattle.places.proofs.Reading.{source_repeat, source_row, source_envelope}
use Rattle.places.proofs.spots.filled_at.Goals as goal

pub returns-in-Some-eq2 : goal.returns-in-Some-eq2
returns-in-Some-eq2 c v i =
    let z = source_repeat _ _ _ _ (case_some _ _ _ _ c.case.ensures _ c.in-Some-eq2.is) _ _ c.in-Some-eq2.field-0-test c.le_at-p.ensures c.count_at-table.ensures.0 v i in
    c.repeat_of.ensures ∙ ap (filled_of _) (sym z)

pub returns-in-Some-eq1 : goal.returns-in-Some-eq1
returns-in-Some-eq1 c = source_row _ _ _ _ (case_some _ _ _ _ c.case.ensures _ c.in-Some-eq1.is) c.in-Some-eq1.field-0-test _

pub returns-in_default : goal.returns-in_default
returns-in_default c v i = ap (filled_of _) (sym (source_envelope _ _ _ _ (case_some _ _ _ _ c.in_default.ensures _ refl) c.in_default.field-0-test.0.1 c.in_default.field-0-test.1 v i))

pub returns-in_default-2 : goal.returns-in_default-2
returns-in_default-2 c v i =
    let e = case_none _ _ _ _ c.case.ensures c.in_default.is in
    ap (filled_of _) (sym (source_envelope _ _ _ _ e (λ h. omega (arith, e, h)) (λ h. omega (arith, e, h)) v i))
