use Rattle.instances.proofs.Runs.{run_on, run_less, run_cut, run_over}
use Rattle.instances.proofs.pieces.run_end.Goals as goal

pub loop-a-smaller : goal.loop-a-smaller
loop-a-smaller c = run_less _ _ _ _ _ _ c.loop-a.invariant _ c.moved.ensures _ c.next_row.ensures _ c.in-Some.is

pub loop-a-preserved : goal.loop-a-preserved
loop-a-preserved c = run_on _ _ _ _ _ _ c.loop-a.invariant _ c.moved.ensures _ c.next_row.ensures _ c.in-Some.is _ c.same_group.ensures c.if-not-same_group.false

pub returns-then-not-same_group : goal.returns-then-not-same_group
returns-then-not-same_group c = run_cut _ _ _ _ _ _ c.loop-a.invariant _ c.moved.ensures _ c.next_row.ensures _ c.in-Some.is _ c.same_group.ensures c.if-not-same_group.true

pub returns : goal.returns
returns c = run_over _ _ _ _ _ _ c.loop-a.invariant _ c.moved.ensures _ c.next_row.ensures c.in_default.is
