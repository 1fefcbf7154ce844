use Rattle.nest.proofs.Claiming.{Tried}
use Rattle.nest.proofs.Anchors.{left, shallower}
use Rattle.nest.specs.Outline.{table_of}
use Rattle.nest.specs.OfJob.{outline_of}
use Prim.Native.Nat.{◌+◌, ◌-◌}
use Rattle.format.specs.Sections.{job_of}
use Rattle.nest.proofs.hang.claim.Given as goal

abbrev pub invariant-loop-up : goal.invariant-loop-up
invariant-loop-up l = Tried (job_of l.job.at.bytes.now) l.t.0 l.r.0 l.last.0 (shallower (outline_of (job_of l.job.at.bytes.now)) (table_of (outline_of (job_of l.job.at.bytes.now)) l.t.0).loops (l.top + 1 - l.up))

abbrev pub invariant-loop-i : goal.invariant-loop-i
invariant-loop-i l = Tried (job_of l.job.at.bytes.now) l.t.0 l.r.0 l.last.0 (left (outline_of (job_of l.job.at.bytes.now)) (table_of (outline_of (job_of l.job.at.bytes.now)) l.t.0).loops (l.top - l.up) l.i)
