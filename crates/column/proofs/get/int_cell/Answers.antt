use Rattle.column.proofs.Columns.{ending_stands, values_in, get_missing, get_unset, get_set}
use Rattle.column.proofs.Lists.{held_past, held_is}
use Rattle.column.proofs.Read.{reads_none, reads_int}
use Rattle.column.specs.Cell.{Cell}
use native.Mathlib.Omega.{arith}
use mathlib.Core.Path.{refl}
use Rattle.column.proofs.get.int_cell.Goals as goal

pub long_in-requires : goal.long_in-requires
long_in-requires c = omega (arith, c.if-n-row.false, values_in c.requires)

pub bit_at-bit-requires : goal.bit_at-bit-requires
bit_at-bit-requires c = ending_stands c.requires _ refl

pub returns-then-n-row : goal.returns-then-n-row
returns-then-n-row c = get_set c.requires _ _ refl _ c.bit_at-bit.ensures (rw c.in-Some-true.field-0-test at c.in-Some-true.is) _ (λ e xs is. reads_none _ (held_past Cell.int64 8 _ _ _ _ c.requires.count c.if-n-row.true e xs is))

pub returns-in-None : goal.returns-in-None
returns-in-None c = get_missing c.requires _ _ refl _ c.bit_at-bit.ensures c.in-None.is

pub returns-in-Some-false : goal.returns-in-Some-false
returns-in-Some-false c = get_unset c.requires _ _ refl _ c.bit_at-bit.ensures (rw c.in-Some-false.field-0-test at c.in-Some-false.is)

pub returns-else-n-row : goal.returns-else-n-row
returns-else-n-row c = get_set c.requires _ _ refl _ c.bit_at-bit.ensures (rw c.in-Some-true.field-0-test at c.in-Some-true.is) _ (λ e xs is. reads_int _ _ (held_is Cell.int64 8 _ _ _ _ c.requires.count c.if-n-row.false _ c.long_in.ensures e xs is))
