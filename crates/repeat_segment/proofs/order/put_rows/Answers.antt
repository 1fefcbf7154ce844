use Rattle.repeat_segment.proofs.OrderLaws.{rows_start, rows_next, rows_end}
use lib.ListN.{get_or}
use mathlib.Core.Path.{refl}
use Rattle.repeat_segment.proofs.order.put_rows.Goals as goal

pub loop-k-init : goal.loop-k-init
loop-k-init c = rows_start _ _ _ _

pub loop-k-preserved : goal.loop-k-preserved
loop-k-preserved c = let a = c.args in let l = c.loop-k in rows_next a.chunk.job.at.bytes.now a.chunk.segment a.chunk.rows.now _ (get_or a.chunk.rows.now l.k 0) (rw c.count-k-end.ensures.0 at c.loop-k-test.true) refl l.invariant c.put_row-t.ensures

pub returns : goal.returns
returns c = rows_end _ _ _ _ (rw c.count-k-end.ensures.0 at c.loop-k-test.false) c.loop-k.invariant
