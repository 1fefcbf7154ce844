use Rattle.repeat_segment.proofs.OrderLaws.{ordered_start, ordered_next, ordered_end}
use Rattle.repeat_segment.proofs.order.in_order.Goals as goal

pub loop-k-init : goal.loop-k-init
loop-k-init c = ordered_start _ _ _

pub loop-k-preserved : goal.loop-k-preserved
loop-k-preserved c = ordered_next _ _ _ c.row_behind.result c.in-Some.is c.loop-k-test.true c.loop-k.invariant c.row_behind.ensures

pub returns : goal.returns
returns c = λ _ rows. ordered_end _ _ _ c.loop-k-test.false c.loop-k.invariant rows
