use Rattle.column.proofs.Columns.{ending_stands, values_in, get_missing, get_unset, get_set}
use Rattle.column.proofs.Lists.{held_past, held_is}
use Rattle.column.proofs.Read.{reads_none, reads_days, reads_seconds}
use Rattle.column.proofs.Values.{ends_plain, short_reader}
use Rattle.column.specs.Cell.{Cell}
use native.Mathlib.Omega.{arith}
use mathlib.Core.Path.{refl}
use Rattle.column.proofs.get.short_cell.Goals as goal

pub num_in-x-requires : goal.num_in-x-requires
num_in-x-requires c = let a = c.requires in omega (arith, c.if-n-row.false, ends_plain c.args.job.now c.args.at c.args.n c.args.kind _ a.short refl, values_in a.of)

pub bit_at-bit-requires : goal.bit_at-bit-requires
bit_at-bit-requires c = let a = c.requires in ending_stands a.of _ (ends_plain _ _ _ _ _ a.short refl)

pub returns-then-n-row : goal.returns-then-n-row
returns-then-n-row c = let a = c.requires in get_set a.of _ _ (ends_plain _ _ _ _ _ a.short refl) _ c.bit_at-bit.ensures (rw c.in-Some-true.field-0-test at c.in-Some-true.is) _ (short_reader _ _ _ _ _ a.short (λ h. λ e xs is. reads_none _ (held_past Cell.date32 4 _ _ _ _ a.of.count c.if-n-row.true e xs is)) (λ h. λ e xs is. reads_none _ (held_past Cell.time32 4 _ _ _ _ a.of.count c.if-n-row.true e xs is)))

pub returns-then-kind-eq3 : goal.returns-then-kind-eq3
returns-then-kind-eq3 c = let a = c.requires in get_set a.of _ _ (ends_plain _ _ _ _ _ a.short refl) _ c.bit_at-bit.ensures (rw c.in-Some-true.field-0-test at c.in-Some-true.is) _ (short_reader _ _ _ _ _ a.short (λ h. λ e xs is. reads_days _ _ (held_is Cell.date32 4 _ _ _ _ a.of.count c.if-n-row.false _ c.num_in-x.ensures.0 e xs is)) (λ h. absurd (omega (arith, c.if-kind-eq3.true))))

pub returns-in-None : goal.returns-in-None
returns-in-None c = let a = c.requires in get_missing a.of _ _ (ends_plain _ _ _ _ _ a.short refl) _ c.bit_at-bit.ensures c.in-None.is

pub returns-in-Some-false : goal.returns-in-Some-false
returns-in-Some-false c = let a = c.requires in get_unset a.of _ _ (ends_plain _ _ _ _ _ a.short refl) _ c.bit_at-bit.ensures (rw c.in-Some-false.field-0-test at c.in-Some-false.is)

pub returns-else-kind-eq3 : goal.returns-else-kind-eq3
returns-else-kind-eq3 c = let a = c.requires in get_set a.of _ _ (ends_plain _ _ _ _ _ a.short refl) _ c.bit_at-bit.ensures (rw c.in-Some-true.field-0-test at c.in-Some-true.is) _ (short_reader _ _ _ _ _ a.short (λ h. absurd (c.if-kind-eq3.false h)) (λ h. λ e xs is. reads_seconds _ _ (held_is Cell.time32 4 _ _ _ _ a.of.count c.if-n-row.false _ c.num_in-x.ensures.0 e xs is)))
