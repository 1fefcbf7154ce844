use Rattle.format.specs.Sections.{job_of}
use Rattle.census.proofs.Bounding.{RootsMost}
use Rattle.census.proofs.bound.Given as goal

abbrev pub invariant-loop-i : goal.invariant-loop-i
invariant-loop-i l = RootsMost (job_of l.nest.job.at.bytes.now) l.i l.n
