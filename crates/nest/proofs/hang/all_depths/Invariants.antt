use Rattle.nest.proofs.Claiming.{Sounded}
use Rattle.nest.specs.OfJob.{outline_of}
use Rattle.format.specs.Sections.{job_of}
use Rattle.nest.proofs.hang.all_depths.Given as goal

abbrev pub invariant-loop-l : goal.invariant-loop-l
invariant-loop-l l = Sounded (outline_of (job_of l.job.at.bytes.now)) l.l l.depths
