use lib.ListN.{length}
use Rattle.nest.specs.OutlineAt.{outline_at}
use Rattle.walk.specs.Contexts.{context_by}
use Rattle.instances.specs.Cursor.{coming}
use Rattle.census.proofs.Counting.{Below, Entering}
use Prim.Native.Nat.{◌+◌, ◌*◌}
use Rattle.census.proofs.+below_entered.Given as goal

abbrev pub decreases-below : goal.decreases-below
decreases-below l = l.height * 2 + 1

abbrev pub decreases-entered : goal.decreases-entered
decreases-entered l = l.height * 2

abbrev pub invariant-below-loop-i : goal.invariant-below-loop-i
invariant-below-loop-i l = Below (outline_at l.nest.job.at.bytes.now) l.height l.l.0 (context_by l.c) l.n l.i l.m l.leaf

abbrev pub invariant-entered-loop-m : goal.invariant-entered-loop-m
invariant-entered-loop-m l = Entering (outline_at l.nest.job.at.bytes.now) l.nest.array.now l.height l.l.0 l.n l.initial.cur l.m l.leaf l.cur

abbrev pub decreases-entered-loop-m : goal.decreases-entered-loop-m
decreases-entered-loop-m l = length (coming (outline_at l.nest.job.at.bytes.now) l.nest.array.now l.cur)
