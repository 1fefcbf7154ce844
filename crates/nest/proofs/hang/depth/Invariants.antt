use Rattle.nest.specs.OfJob.{outline_of}
use Rattle.nest.specs.Nest.{depth, depth_of}
use Prim.Native.Nat.{◌+◌, ◌-◌}
use mathlib.Core.Path.{◌≡◌}
use Rattle.format.specs.Sections.{job_of}
use Rattle.nest.proofs.hang.depth.Given as goal

abbrev pub invariant-loop-d : goal.invariant-loop-d
invariant-loop-d l = depth_of (outline_of (job_of l.job.at.bytes.now)) l.initial.at ≡ l.d + depth (outline_of (job_of l.job.at.bytes.now)) (l.n - l.d) l.at
