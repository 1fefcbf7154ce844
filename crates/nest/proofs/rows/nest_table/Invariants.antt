use Rattle.nest.proofs.Placing.{Storing}
use Rattle.nest.specs.OfJob.{outline_of}
use Rattle.nest.specs.Nest.{nest_record}
use Rattle.nest.specs.Outline.{row_count}
use Prim.Native.Nat.{◌+◌, ◌*◌}
use Rattle.tables.specs.Parts.{rows_before}
use Rattle.format.specs.Sections.{job_of}
use Rattle.nest.proofs.rows.nest_table.Given as goal

abbrev pub invariant-loop-r : goal.invariant-loop-r
invariant-loop-r l = Storing (nest_record (outline_of (job_of l.job.at.bytes.now)) l.t.0) (row_count (outline_of (job_of l.job.at.bytes.now)) l.t.0) l.initial.nest (rows_before (job_of l.job.at.bytes.now).tables l.t.0 * 3) l.nest ((l.first + l.r) * 3) l.r
