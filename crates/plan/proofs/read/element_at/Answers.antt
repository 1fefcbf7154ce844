use mathlib.Core.Path.{refl}
use native.Mathlib.Omega.{arith}
use Rattle.plan.proofs.Reading.{element_0, element_1, element_mark, value_alone, value_in_component, value_number}
use Rattle.plan.proofs.read.element_at.Goals as goal

pub num_in-element-requires : goal.num_in-element-requires
num_in-element-requires c = omega (arith, element_mark _ _ c.requires)

pub overflow_add-mark : goal.overflow_add-mark
overflow_add-mark c = omega (arith, element_mark _ _ c.requires)

pub bounds-job-at : goal.bounds-job-at
bounds-job-at c = element_mark _ _ c.requires

pub overflow_add-at : goal.overflow_add-at
overflow_add-at c = omega (arith, element_mark _ _ c.requires)

pub value_at-requires : goal.value_at-requires
value_at-requires c = value_alone _ _ c.requires c.if-mark-eq0.true

pub num_in-component-requires : goal.num_in-component-requires
num_in-component-requires c = omega (arith, value_number _ _ (value_in_component _ _ c.requires c.if-mark-eq0.false))

pub value_at-requires-2 : goal.value_at-requires-2
value_at-requires-2 c = value_in_component _ _ c.requires c.if-mark-eq0.false

pub returns-then-mark-eq0 : goal.returns-then-mark-eq0
returns-then-mark-eq0 c = element_0 _ _ _ _ _ c.num_in-element.ensures.0 refl c.value_at.ensures.0 c.if-mark-eq0.true c.value_at.ensures.1 c.value_at.ensures.2

pub returns : goal.returns
returns c = element_1 _ _ _ _ _ c.num_in-element.ensures.0 refl c.value_at-2.ensures.0 c.if-mark-eq0.false _ c.num_in-component.ensures.0 c.value_at-2.ensures.1 c.value_at-2.ensures.2
