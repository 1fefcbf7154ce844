use native.Mathlib.Omega.{arith}
use mathlib.Core.Path.{refl}
use mathlib.Core.List.{[]}
use Rattle.emit.specs.Fold.{steps_out}
use Rattle.emit.proofs.Did.{Fit}
use Rattle.repeats.proofs.Adding.{mark_small}
use Rattle.repeats.proofs.RowLaws.{loop_low}
use Rattle.repeats.proofs.SoFar.{left_first, first_in, first_holds, few_more, took_first}
use Rattle.repeats.proofs.begin.Goals as goal
use Rattle.repeats.proofs.begin.Goals.{Start}

pub add_rows-requires : goal.add_rows-requires
add_rows-requires c = let a = c.args in let q = c.requires in let e = c.planned_segment-s.ensures in (mark_small _ (steps_out _ _) (c.add_row-n.ensures.0 [] [] (omega arith) (omega arith)), loop_low _ _ e.1 q.1, q.2, q.3, first_holds _ _ a.rows.now _ a.r.0 q.3 refl q.5 c.add_row-n.ensures.1, few_more _ _ (left_first c.planned_segment-s.result a.l a.i a.w.t a.r.0 e.1 e.2 e.3 _ _ a.w a.p.0 _ (first_in a.rows.now _ a.r.0 q.5 c.add_row-n.ensures.1)) q.6, e.0, e.3)

pub returns : goal.returns
returns c = let a = c.args in let e = c.planned_segment-s.ensures in let z : Fit a.doc.now a.segments.now a.findings.now a.stops.now = record { document = omega (arith, (goal.at.returns c).Start); segments = omega (arith, (goal.at.returns c).Start); findings = omega (arith, (goal.at.returns c).Start); stops = omega (arith, (goal.at.returns c).Start) } in took_first c.planned_segment-s.result a.l a.i a.w.t a.r.0 e.1 e.2 e.3 _ _ _ _ (left_first c.planned_segment-s.result a.l a.i a.w.t a.r.0 e.1 e.2 e.3 _ _ a.w a.p.0 _ (first_in a.rows.now _ a.r.0 c.requires.5 c.add_row-n.ensures.1)) z c.add_row-n.ensures.0 c.add_rows.ensures.0 c.add_rows.ensures.1
