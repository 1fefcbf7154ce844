use Prim.Native.Nat.{◌+◌}
use lib.ListN.{length}
use Rattle.format.specs.Sections.{job_of}
use Rattle.nest.specs.Found.{ArrayIs}
use Rattle.nest.specs.OfJob.{outline_of}
use Rattle.nest.specs.Rising.{rising_flag}
use Rattle.nest.proofs.Placing.{Storing}
use Rattle.nest.proofs.order.mark_rising.Given as goal

abbrev pub invariant-loop-t : goal.invariant-loop-t
invariant-loop-t l = Storing (rising_flag (outline_of (job_of l.job.at.bytes.now))) (length (outline_of (job_of l.job.at.bytes.now)).row_counts) l.initial.nest l.flags l.nest (l.flags + l.t) l.t × ArrayIs (outline_of (job_of l.job.at.bytes.now)) l.nest
