use Rattle.column.proofs.Columns.{ending_stands, values_in, get_missing, get_unset, get_set}
use Rattle.column.proofs.Lists.{wide_past, wide_is}
use native.Mathlib.Omega.{arith}
use mathlib.Core.Path.{refl}
use Rattle.column.proofs.get.wide_cell.Goals as goal

pub long_in-low-requires : goal.long_in-low-requires
long_in-low-requires c = omega (arith, c.if-n-row.false, values_in c.requires)

pub long_in-high-requires : goal.long_in-high-requires
long_in-high-requires c = omega (arith, c.if-n-row.false, values_in c.requires)

pub bounds-job-at : goal.bounds-job-at
bounds-job-at c = omega (arith, values_in c.requires)

pub bit_at-bit-requires : goal.bit_at-bit-requires
bit_at-bit-requires c = ending_stands c.requires _ refl

pub returns-then-n-row : goal.returns-then-n-row
returns-then-n-row c = get_set c.requires _ _ refl _ c.bit_at-bit.ensures (rw c.in-Some-true.field-0-test at c.in-Some-true.is) _ (wide_past _ _ _ _ c.requires.count c.if-n-row.true)

pub returns-in-None : goal.returns-in-None
returns-in-None c = get_missing c.requires _ _ refl _ c.bit_at-bit.ensures c.in-None.is

pub returns-in-Some-false : goal.returns-in-Some-false
returns-in-Some-false c = get_unset c.requires _ _ refl _ c.bit_at-bit.ensures (rw c.in-Some-false.field-0-test at c.in-Some-false.is)

pub returns-else-n-row : goal.returns-else-n-row
returns-else-n-row c = get_set c.requires _ _ refl _ c.bit_at-bit.ensures (rw c.in-Some-true.field-0-test at c.in-Some-true.is) _ (wide_is _ _ _ _ c.requires.count c.if-n-row.false _ _ _ c.long_in-low.ensures c.long_in-high.ensures refl)
