use mathlib.Core.Path.{◌≡◌}
use Rattle.format.specs.Sections.{job_of}
use Rattle.nest.specs.OfJob.{outline_of}
use Rattle.walk.specs.Instances.{has_data}
use Rattle.walk.proofs.DataLaws.{data_from}
use Prim.Native.Nat.{◌-◌}
use Rattle.due.proofs.+has_data.Given as goal

abbrev pub decreases-has_data : goal.decreases-has_data
decreases-has_data l = l.height

abbrev pub invariant-loop-k : goal.invariant-loop-k
invariant-loop-k l = has_data (outline_of (job_of l.job.at.bytes.now)) l.height l.l.0 l.t.0 l.r.0 ≡ data_from (outline_of (job_of l.job.at.bytes.now)) (l.height - 1) l.l.0 l.t.0 l.r.0 l.k
