use native.Mathlib.Omega.{arith}
use mathlib.Core.List.{[]}
use Rattle.emit.specs.Fold.{steps_out}
use Rattle.emit.proofs.Did.{Fit}
use Rattle.repeats.proofs.Adding.{row_begins, mark_small}
use Rattle.repeats.proofs.cut.Goals as goal
use Rattle.repeats.proofs.cut.Goals.{Start}

pub add_row-n-requires : goal.add_row-n-requires
add_row-n-requires c = (mark_small _ (steps_out _ _) (c.close-closed.ensures.0 [] []), c.requires.1, c.requires.2, omega arith, c.requires.3.space)

pub returns : goal.returns
returns c = let a = c.args in let k : Fit a.doc.now a.segments.now a.findings.now a.stops.now = record { document = omega (arith, (goal.at.returns c).Start); segments = omega (arith, (goal.at.returns c).Start); findings = omega (arith, (goal.at.returns c).Start); stops = omega (arith, (goal.at.returns c).Start) } in row_begins _ _ _ _ _ _ _ _ _ (omega (arith, c.requires.3.space)) c.add_row-n.ensures.1 k c.close-closed.ensures.0 c.close-closed.ensures.1 c.add_row-n.ensures.0
