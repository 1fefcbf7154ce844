use Rattle.format.specs.Sections.{job_of}
use Rattle.census.proofs.Counting.{Rooted}
use Rattle.census.proofs.census.Given as goal

abbrev pub invariant-loop-i : goal.invariant-loop-i
invariant-loop-i l = Rooted (job_of l.nest.job.at.bytes.now) l.i l.n
