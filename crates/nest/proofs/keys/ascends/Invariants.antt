use Rattle.nest.proofs.Rising.{Climbing}
use Rattle.nest.specs.OfJob.{outline_of}
use Rattle.format.specs.Sections.{job_of}
use Rattle.nest.proofs.keys.ascends.Given as goal

abbrev pub invariant-loop-k : goal.invariant-loop-k
invariant-loop-k l = Climbing (outline_of (job_of l.job.at.bytes.now)) l.u.0 l.k l.last
