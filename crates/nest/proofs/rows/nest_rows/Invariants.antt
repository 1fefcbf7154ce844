use Rattle.nest.proofs.Placing.{Storing}
use Rattle.nest.specs.OfJob.{outline_of}
use Rattle.nest.specs.Nest.{table_array}
use lib.ListN.{length}
use Prim.Native.Nat.{◌*◌}
use Rattle.tables.specs.Parts.{rows_before}
use Rattle.format.specs.Sections.{job_of}
use Rattle.nest.proofs.rows.nest_rows.Given as goal

abbrev pub invariant-loop-t : goal.invariant-loop-t
invariant-loop-t l = Storing (table_array (outline_of (job_of l.job.at.bytes.now))) (length (outline_of (job_of l.job.at.bytes.now)).row_counts) l.initial.nest 0 l.nest (rows_before (job_of l.job.at.bytes.now).tables l.t * 3) l.t
