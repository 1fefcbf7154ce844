use Prim.Native.Nat.{◌-◌}
use Rattle.nest.specs.OutlineAt.{outline_at}
use Rattle.instances.proofs.Runs.{Running}
use Rattle.instances.proofs.pieces.run_end.Given as goal

abbrev pub invariant-loop-a : goal.invariant-loop-a
invariant-loop-a l = Running (outline_at l.job.at.bytes.now) l.nest l.cur l.head.0 l.seen l.next

abbrev pub decreases-loop-a : goal.decreases-loop-a
decreases-loop-a l = l.cur.rows - l.next
