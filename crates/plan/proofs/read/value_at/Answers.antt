use mathlib.Core.Path.{refl}
use native.Mathlib.Omega.{arith}
use Rattle.plan.proofs.Reading.{value_0, value_1, value_2, value_number}
use Rattle.plan.proofs.read.value_at.Goals as goal

pub overflow_add-at : goal.overflow_add-at
overflow_add-at c = omega (arith, value_number _ _ c.requires)

pub num_in-n-requires : goal.num_in-n-requires
num_in-n-requires c = value_number _ _ c.requires

pub bounds-job-at : goal.bounds-job-at
bounds-job-at c = omega (arith, value_number _ _ c.requires)

pub overflow_add-result : goal.overflow_add-result
overflow_add-result c = omega (arith, value_number _ _ c.requires)

pub returns-in-0 : goal.returns-in-0
returns-in-0 c = (refl, refl, value_0 _ _ _ _ _ _ refl c.num_in-n.ensures.0 c.in-0.is)

pub returns-in-1 : goal.returns-in-1
returns-in-1 c = (refl, refl, value_1 _ _ _ _ _ _ refl c.num_in-n.ensures.0 c.in-1.is)

pub returns-in_default : goal.returns-in_default
returns-in_default c = (refl, refl, value_2 _ _ _ _ _ _ refl c.num_in-n.ensures.0 (omega arith) (omega arith))
