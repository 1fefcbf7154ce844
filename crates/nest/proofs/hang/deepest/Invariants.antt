use Rattle.nest.specs.Keys.{Within}
use Prim.Native.Nat.{◌<◌}
use Rattle.nest.specs.OfJob.{outline_of}
use Rattle.format.specs.Sections.{job_of}
use Rattle.nest.proofs.hang.deepest.Given as goal

abbrev pub invariant-loop-i : goal.invariant-loop-i
invariant-loop-i l = Within (outline_of (job_of l.job.at.bytes.now)) l.t.0 l.i l.d × (l.d < 256)
