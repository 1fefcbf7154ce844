use native.Mathlib.Omega.{arith}
use Rattle.format.specs.Sections.{job_of}
use Rattle.nest.proofs.Stored.{rows_counted}
use Rattle.writer.proofs.passed.Goals as goal

pub in_array-requires : goal.in_array-requires
in_array-requires c = (c.fill_index.ensures.0, omega (arith, rows_counted (job_of c.args.job.now) _ _ c.data_count-tables.ensures c.first_row-rows.ensures, c.if-rows-le240.true), omega arith)
