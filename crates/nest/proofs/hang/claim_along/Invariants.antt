use Rattle.nest.proofs.Claiming.{Tried}
use Rattle.nest.specs.Nest.{anchors}
use Rattle.nest.specs.OfJob.{outline_of}
use lib.ListN.{drop}
use Rattle.format.specs.Sections.{job_of}
use Rattle.nest.proofs.hang.claim_along.Given as goal

abbrev pub invariant-loop-k : goal.invariant-loop-k
invariant-loop-k l = Tried (job_of l.job.at.bytes.now) l.t.0 l.r.0 l.last.0 (drop l.k (anchors (outline_of (job_of l.job.at.bytes.now)) l.t.0))
