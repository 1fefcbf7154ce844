use Prim.Native.Nat.{◌≤◌}
use Rattle.nest.specs.Job.{job_by}
use Rattle.run.proofs.Touring.{RootsTo}
use Rattle.run.proofs.run.Given as goal

abbrev pub invariant-loop-k : goal.invariant-loop-k
invariant-loop-k l = record {
  in_roots : l.k ≤ l.count;
  far : RootsTo (job_by l.nest.job) l.height l.k l.initial.t l.t l.initial.doc l.doc l.initial.segments l.segments l.initial.findings l.findings l.initial.stops l.stops;
}
