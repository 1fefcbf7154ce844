use Rattle.nest.proofs.Stored.{row_placed_lem, row_unplaced}
use Rattle.nest.proofs.Lacking.{stored_as}
use native.Mathlib.Omega.{arith}
use Rattle.nest.proofs.report.row_findings.Goals as goal

pub returns-in-Some : goal.returns-in-Some
returns-in-Some c = let q = c.requires in stored_as _ _ _ _ _ _ (row_placed_lem _ _ q.0 _ _ _ q.2 (omega (arith, q.3, q.4)) _ c.row_above.ensures _ _ c.in-Some.is c.table_above.ensures) c.contradictions.ensures

pub returns-in-None : goal.returns-in-None
returns-in-None c = let q = c.requires in stored_as _ _ _ _ _ _ (row_unplaced _ _ q.0 _ _ _ q.2 (omega (arith, q.3, q.4)) _ c.row_above.ensures c.in-None.is) c.missing.ensures
