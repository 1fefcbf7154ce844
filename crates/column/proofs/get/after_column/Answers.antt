use Rattle.column.proofs.Bits.{bits_in}
use Rattle.column.proofs.Columns.{column_end, validity_stands}
use native.Mathlib.Omega.{arith}
use mathlib.Core.Path.{refl}
use Rattle.column.proofs.get.after_column.Goals as goal

pub num_in-n-requires : goal.num_in-n-requires
num_in-n-requires c = omega (arith, bits_in _ _ _ refl (validity_stands _ _ _ c.after_values-p.ensures c.requires))

pub overflow_add-result : goal.overflow_add-result
overflow_add-result c = omega (arith, bits_in _ _ _ refl (validity_stands _ _ _ c.after_values-p.ensures c.requires))

pub overflow_add-result-2 : goal.overflow_add-result-2
overflow_add-result-2 c = omega (arith, bits_in _ _ _ c.num_in-n.ensures.0 (validity_stands _ _ _ c.after_values-p.ensures c.requires))

pub overflow_add-result-3 : goal.overflow_add-result-3
overflow_add-result-3 c = omega (arith, bits_in _ _ _ c.num_in-n.ensures.0 (validity_stands _ _ _ c.after_values-p.ensures c.requires))

pub returns : goal.returns
returns c = column_end _ _ _ c.after_values-p.ensures _ c.num_in-n.ensures.0
