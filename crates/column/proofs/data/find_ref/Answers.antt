use Rattle.codec.proofs.Field.{stands_in, stands_first, stands_le, stands_list, stands_next}
use Rattle.column.proofs.Refs.{rest_start, rest_stands, rest_found, rest_next, rest_done}
use native.Mathlib.Omega.{arith}
use Rattle.column.proofs.data.find_ref.Goals as goal

pub num_in-table-requires : goal.num_in-table-requires
num_in-table-requires c = stands_le 4 _ _ (stands_first _ _ _ _ (rest_stands _ _ _ _ _ c.loop-i.invariant c.requires (omega arith)))

pub overflow_add-column : goal.overflow_add-column
overflow_add-column c = omega (arith, stands_in _ _ _ (rest_stands _ _ _ _ _ c.loop-i.invariant c.requires (omega arith)))

pub after_opt-p-requires : goal.after_opt-p-requires
after_opt-p-requires c = stands_next 4 _ _ _ (rest_stands _ _ _ _ _ c.loop-i.invariant c.requires (omega arith))

pub num_in-n-requires : goal.num_in-n-requires
num_in-n-requires c = stands_list _ _ _ c.requires

pub loop-i-init : goal.loop-i-init
loop-i-init c = rest_start _ _ _ _ c.num_in-n.ensures.0

pub returns-then-table-above : goal.returns-then-table-above
returns-then-table-above c = λ e refs l is. rest_found _ _ e _ _ _ (c.loop-i.invariant e refs l is) (omega arith) _ c.num_in-table.ensures.0 c.if-table-above.true

pub loop-i-preserved : goal.loop-i-preserved
loop-i-preserved c = λ e refs l is. rest_next _ _ e _ _ _ (c.loop-i.invariant e refs l is) _ (omega arith) _ c.num_in-table.ensures.0 c.if-table-above.false _ c.after_opt-p.ensures

pub returns : goal.returns
returns c = λ e refs l is. rest_done _ _ e _ _ _ (c.loop-i.invariant e refs l is) (omega arith)
