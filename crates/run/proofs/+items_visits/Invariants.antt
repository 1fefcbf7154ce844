use Prim.Native.Nat.{◌+◌, ◌*◌, ◌≤◌}
use lib.ListN.{length}
use Rattle.nest.specs.Job.{outline_by, job_by}
use Rattle.walk.specs.Contexts.{context_by}
use Rattle.instances.specs.Cursor.{coming, Going}
use Rattle.run.proofs.Walking.{ItemsTo, VisitsTo}
use Rattle.run.proofs.+items_visits.Given as goal

abbrev pub decreases-items : goal.decreases-items
decreases-items l = l.height * 2 + 1

abbrev pub decreases-visits : goal.decreases-visits
decreases-visits l = l.height * 2

abbrev pub invariant-items-loop-k : goal.invariant-items-loop-k
invariant-items-loop-k l = record {
  in_order : l.k ≤ l.k-end;
  along : ItemsTo (job_by l.nest.job) l.height l.l.0 (context_by l.c) l.k l.initial.s l.s l.written l.n l.initial.doc l.doc l.initial.segments l.segments l.initial.findings l.findings l.initial.stops l.stops;
}

abbrev pub invariant-visits-loop-next : goal.invariant-visits-loop-next
invariant-visits-loop-next l = record {
  along : VisitsTo (job_by l.nest.job) l.height l.l.0 (coming (outline_by l.nest.job) l.nest.array.now l.initial.cur) (coming (outline_by l.nest.job) l.nest.array.now l.cur) l.initial.s l.s l.written l.n l.initial.doc l.doc l.initial.segments l.segments l.initial.findings l.findings l.initial.stops l.stops;
  going : Going (outline_by l.nest.job) l.nest.array.now l.cur;
}

abbrev pub decreases-visits-loop-next : goal.decreases-visits-loop-next
decreases-visits-loop-next l = length (coming (outline_by l.nest.job) l.nest.array.now l.cur)
