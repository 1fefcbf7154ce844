use Rattle.nest.proofs.Anchors.{left, shallower}
use Rattle.nest.proofs.Lining.{Lining}
use Rattle.nest.specs.Outline.{table_of}
use Rattle.nest.specs.OfJob.{outline_of}
use Prim.Native.Nat.{◌+◌, ◌-◌}
use Rattle.format.specs.Sections.{job_of}
use Rattle.nest.proofs.hang.line_up.Given as goal

abbrev pub invariant-loop-up : goal.invariant-loop-up
invariant-loop-up l = Lining (outline_of (job_of l.job.at.bytes.now)) l.t.0 l.n l.anchors (shallower (outline_of (job_of l.job.at.bytes.now)) (table_of (outline_of (job_of l.job.at.bytes.now)) l.t.0).loops (l.top + 1 - l.up))

abbrev pub invariant-loop-i : goal.invariant-loop-i
invariant-loop-i l = Lining (outline_of (job_of l.job.at.bytes.now)) l.t.0 l.n l.anchors (left (outline_of (job_of l.job.at.bytes.now)) (table_of (outline_of (job_of l.job.at.bytes.now)) l.t.0).loops (l.top - l.up) l.i)
