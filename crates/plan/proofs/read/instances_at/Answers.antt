use mathlib.Core.Path.{refl}
use native.Mathlib.Omega.{arith}
use Rattle.plan.proofs.Reading.{instances_case_lem, instances_else, instances_starts, instances_number}
use Rattle.plan.proofs.read.instances_at.Goals as goal

pub bounds-job-at : goal.bounds-job-at
bounds-job-at c = instances_starts _ _ c.requires

pub table_at-requires : goal.table_at-requires
table_at-requires c = instances_number _ _ c.requires 2 c.in-2.is (omega arith) (omega arith)

pub table_at-requires-in-3 : goal.table_at-requires-in-3
table_at-requires-in-3 c = instances_number _ _ c.requires 3 c.in-3.is (omega arith) (omega arith)

pub table_at-requires-in-4 : goal.table_at-requires-in-4
table_at-requires-in-4 c = instances_number _ _ c.requires 4 c.in-4.is (omega arith) (omega arith)

pub returns-in-0 : goal.returns-in-0
returns-in-0 c = instances_case_lem _ _ _ _ refl refl 0 c.in-0.is

pub returns-in-1 : goal.returns-in-1
returns-in-1 c = instances_case_lem _ _ _ _ refl refl 1 c.in-1.is

pub returns-in-2 : goal.returns-in-2
returns-in-2 c = instances_case_lem _ _ _ _ refl c.table_at.ensures 2 c.in-2.is

pub returns-in-3 : goal.returns-in-3
returns-in-3 c = instances_case_lem _ _ _ _ refl c.table_at-in-3.ensures 3 c.in-3.is

pub returns-in-4 : goal.returns-in-4
returns-in-4 c = instances_case_lem _ _ _ _ refl c.table_at-in-4.ensures 4 c.in-4.is

pub returns-in_default : goal.returns-in_default
returns-in_default c = instances_else _ _ _ _ refl refl (omega arith) (omega arith) (omega arith) (omega arith) (omega arith)
