use Rattle.nest.proofs.Rising.{Marked}
use Rattle.nest.specs.OfJob.{outline_of}
use Rattle.format.specs.Sections.{job_of}
use Rattle.nest.proofs.keys.all_keys.Given as goal

abbrev pub invariant-loop-u : goal.invariant-loop-u
invariant-loop-u l = Marked (outline_of (job_of l.job.at.bytes.now)) l.u l.keys
