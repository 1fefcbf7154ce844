use Rattle.column.proofs.Columns.{ending_stands, values_in, get_missing, get_unset, get_set}
use Rattle.column.proofs.Lists.{offsets_past, offsets_are}
use Rattle.codec.specs.Codec.{le}
use native.Mathlib.Omega.{arith}
use mathlib.Core.Path.{ap, ◌∙◌}
use Rattle.column.proofs.get.bytes_cell.Goals as goal

pub num_in-m-requires : goal.num_in-m-requires
num_in-m-requires c = omega (arith, values_in c.requires)

pub num_in-from-requires : goal.num_in-from-requires
num_in-from-requires c = omega (arith, c.if-data-next.false, values_in c.requires)

pub num_in-to-requires : goal.num_in-to-requires
num_in-to-requires c = omega (arith, c.if-data-next.false, values_in c.requires)

pub stretch-requires : goal.stretch-requires
stretch-requires c = omega (arith, values_in c.requires)

pub bit_at-bit-requires : goal.bit_at-bit-requires
bit_at-bit-requires c = ending_stands c.requires _ (omega (arith, c.num_in-m.ensures.0))

pub returns-then-data-next : goal.returns-then-data-next
returns-then-data-next c = get_set c.requires _ _ (omega (arith, c.num_in-m.ensures.0)) _ c.bit_at-bit.ensures (rw c.in-Some-true.field-0-test at c.in-Some-true.is) _ (offsets_past _ _ _ _ c.requires.count (omega (arith, c.if-data-next.true)))

pub returns-in-None : goal.returns-in-None
returns-in-None c = get_missing c.requires _ _ (omega (arith, c.num_in-m.ensures.0)) _ c.bit_at-bit.ensures c.in-None.is

pub returns-in-Some-false : goal.returns-in-Some-false
returns-in-Some-false c = get_unset c.requires _ _ (omega (arith, c.num_in-m.ensures.0)) _ c.bit_at-bit.ensures (rw c.in-Some-false.field-0-test at c.in-Some-false.is)

pub returns-else-data-next : goal.returns-else-data-next
returns-else-data-next c = get_set c.requires _ _ (omega (arith, c.num_in-m.ensures.0)) _ c.bit_at-bit.ensures (rw c.in-Some-true.field-0-test at c.in-Some-true.is) _ (offsets_are _ _ _ _ c.requires.count (omega (arith, c.if-data-next.false)) _ _ (c.num_in-from.ensures.0 ∙ ap (le 4 _) (omega arith)) (c.num_in-to.ensures.0 ∙ ap (le 4 _) (omega arith)) _ (λ e bytes l is. c.stretch.ensures _ e bytes c.num_in-m.ensures.0 l is))
