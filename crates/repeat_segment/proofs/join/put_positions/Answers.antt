use Rattle.repeat_segment.proofs.JoinLaws.{repeat_start, repeat_next, repeat_end}
use native.Mathlib.Omega.{arith}
use Rattle.repeat_segment.proofs.join.put_positions.Goals as goal
use Rattle.repeat_segment.proofs.join.put_positions.Goals.{else-loop-p-test, then-loop-p-test+else-p-last}

pub loop-p-init : goal.loop-p-init
loop-p-init c = repeat_start

pub loop-p-preserved : goal.loop-p-preserved
loop-p-preserved c = repeat_next c.loop-p-test.true c.loop-p.invariant c.put_position-t.ensures c.put_position-t.auto.doc

-- the loop ends before the first element, or behind the last
pub returns : goal.returns
returns c = elim c.loop-p-test.branch [
  | else-loop-p-test w ↦ repeat_end w.loop-p-test.false c.loop-p.invariant (rw (w.doc-is, w.t-is) at c.close.ensures)
  | then-loop-p-test+else-p-last w ↦
      repeat_end (omega arith) (repeat_next w.loop-p-test.true c.loop-p.invariant w.put_position-t.ensures w.put_position-t.auto.doc) (rw (w.doc-is, w.t-is) at c.close.ensures)
]
