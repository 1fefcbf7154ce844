use Rattle.repeat_segment.proofs.PlaceLaws.{group_unmoved, group_stands, group_below, group_between}
use native.Mathlib.Omega.{arith}
use Rattle.repeat_segment.proofs.places.group_row.Goals as goal

pub returns-then-step-eq0 : goal.returns-then-step-eq0
returns-then-step-eq0 c = let a = c.args in (λ z. absurd (omega arith), λ m z e. group_unmoved a.element a.step a.p c.if-step-eq0.true m e)

pub returns-then-p-element-eq0 : goal.returns-then-p-element-eq0
returns-then-p-element-eq0 c = let a = c.args in (λ z. group_stands a.element a.step a.p c.if-step-eq0.false c.if-p-element.false c.if-p-element-eq0.true, λ m z e. group_below a.element a.step a.p c.if-step-eq0.false c.if-p-element.false c.if-p-element-eq0.true m z e)

pub returns : goal.returns
returns c = let a = c.args in (λ z. absurd (omega arith), λ m z e. group_between a.element a.step a.p c.if-p-element-eq0.false m e)
