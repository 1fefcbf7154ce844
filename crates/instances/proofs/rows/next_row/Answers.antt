use native.Mathlib.Omega.{arith}
use Rattle.instances.proofs.RowsLeft.{looking_no, looking_skip, ahead_row, ahead_past, ahead_end}
use Rattle.instances.proofs.rows.next_row.Goals as goal
use Rattle.instances.proofs.rows.next_row.Goals.{then-passes+else-end-seen+else-start-seen, else-passes}

pub returns-then-end-seen : goal.returns-then-end-seen
returns-then-end-seen c = ahead_past _ _ _ _ c.loop-k.invariant _ c.end_in-end.ensures (omega (arith, c.if-end-seen.true))

pub returns-then-start-seen : goal.returns-then-start-seen
returns-then-start-seen c = ahead_row _ _ _ _ c.loop-k.invariant _ _ _ c.requires c.loop-k-test.true c.passes.ensures c.if-passes.true c.start_in-start.ensures c.end_in-end.ensures c.if-start-seen.true c.if-end-seen.false

pub loop-k-preserved : goal.loop-k-preserved
loop-k-preserved c = elim c.if-passes.branch [
  | then-passes+else-end-seen+else-start-seen w ↦ rw w.seen-is (looking_skip _ _ _ _ c.loop-k.invariant _ _ c.loop-k-test.true c.passes.ensures w.if-passes.true c.start_in-start.ensures w.if-start-seen.false)
  | else-passes w ↦ rw w.seen-is (looking_no _ _ _ _ c.loop-k.invariant _ c.loop-k-test.true c.passes.ensures w.if-passes.false)
]

pub returns : goal.returns
returns c = ahead_end _ _ _ _ c.loop-k.invariant c.loop-k-test.false
