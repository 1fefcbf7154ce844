use Rattle.column.proofs.Bits.{bits_in, bit_past, bit_short, bit_is_lem}
use native.Mathlib.Omega.{arith}
use mathlib.Core.Path.{refl}
use Rattle.column.proofs.bitmap.bit_at.Goals as goal

pub num_in-n-requires : goal.num_in-n-requires
num_in-n-requires c = omega (arith, bits_in _ _ _ refl c.requires)

pub num_in-count-requires : goal.num_in-count-requires
num_in-count-requires c = omega (arith, bits_in _ _ _ c.num_in-n.ensures.0 c.requires)

pub returns-then-count-row : goal.returns-then-count-row
returns-then-count-row c = bit_past _ _ _ _ _ c.num_in-n.ensures.0 c.num_in-count.ensures.0 c.if-count-row.true

pub returns-then-n-k : goal.returns-then-n-k
returns-then-n-k c = bit_short _ _ _ _ _ c.num_in-n.ensures.0 c.num_in-count.ensures.0 c.if-count-row.false c.if-n-k.true

pub bounds-job-at : goal.bounds-job-at
bounds-job-at c = omega (arith, c.if-n-k.false, bits_in _ _ _ c.num_in-n.ensures.0 c.requires)

pub returns : goal.returns
returns c = bit_is_lem _ _ _ _ _ c.num_in-n.ensures.0 c.num_in-count.ensures.0 c.if-count-row.false c.if-n-k.false _ _ refl c.bit_of.ensures
