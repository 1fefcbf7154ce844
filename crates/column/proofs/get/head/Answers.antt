use Rattle.column.proofs.Columns.{column_in}
use native.Mathlib.Omega.{arith}
use mathlib.Core.Path.{refl}
use Rattle.column.proofs.get.head.Goals as goal

pub bounds-job-at : goal.bounds-job-at
bounds-job-at c = omega (arith, column_in c.requires)

pub overflow_add-at : goal.overflow_add-at
overflow_add-at c = omega (arith, column_in c.requires)

pub num_in-requires : goal.num_in-requires
num_in-requires c = omega (arith, column_in c.requires)

pub returns : goal.returns
returns c = record { stands = c.requires; room = column_in c.requires; kind = refl; count = c.num_in.ensures.0; few = c.num_in.ensures.1 }
