use mathlib.Core.Path.{refl}
use native.Mathlib.Omega.{arith}
use Rattle.plan.proofs.Reading.{source_0, source_1, source_2, source_starts, source_number}
use Rattle.plan.proofs.read.source_at.Goals as goal

pub bounds-job-at : goal.bounds-job-at
bounds-job-at c = source_starts _ _ c.requires

pub table_at-requires : goal.table_at-requires
table_at-requires c = source_number _ _ c.requires (omega arith)

pub table_at-requires-in_default : goal.table_at-requires-in_default
table_at-requires-in_default c = source_number _ _ c.requires (omega arith)

pub returns-in-0 : goal.returns-in-0
returns-in-0 c = source_0 _ _ _ _ refl refl c.in-0.is

pub returns-in-1 : goal.returns-in-1
returns-in-1 c = source_1 _ _ _ _ refl c.table_at.ensures c.in-1.is

pub returns-in_default : goal.returns-in_default
returns-in_default c = source_2 _ _ _ _ refl c.table_at-in_default.ensures (omega arith) (omega arith)
