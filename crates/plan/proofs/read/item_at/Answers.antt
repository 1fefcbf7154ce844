use mathlib.Core.Path.{refl}
use native.Mathlib.Omega.{arith}
use Rattle.plan.proofs.Reading.{item_0, item_1, item_number}
use Rattle.plan.proofs.read.item_at.Goals as goal

pub overflow_add-at : goal.overflow_add-at
overflow_add-at c = omega (arith, item_number _ _ c.requires)

pub num_in-n-requires : goal.num_in-n-requires
num_in-n-requires c = item_number _ _ c.requires

pub bounds-job-at : goal.bounds-job-at
bounds-job-at c = omega (arith, item_number _ _ c.requires)

pub returns-in-0 : goal.returns-in-0
returns-in-0 c = item_0 _ _ _ _ refl c.num_in-n.ensures.0 c.in-0.is

pub returns-in_default : goal.returns-in_default
returns-in_default c = item_1 _ _ _ _ refl c.num_in-n.ensures.0 (omega arith)
