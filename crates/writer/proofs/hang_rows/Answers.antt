use native.Mathlib.Omega.{arith}
use Rattle.writer.proofs.NestedLaws.{array_stored, array_long}
use Rattle.writer.proofs.hang_rows.Goals as goal

pub mark_rising-requires : goal.mark_rising-requires
mark_rising-requires c = (array_stored _ _ c.args.job.ready c.requires c.nest_rows.ensures, omega (arith, c.requires, array_long _ _ c.args.job.ready c.requires c.nest_rows.ensures))
