use Rattle.nest.specs.Found.{hooked_at}
use native.Mathlib.Omega.{arith}
use Rattle.repeats.proofs.SoFar.{so_start, so_small, so_written, so_next, so_end}
use Rattle.repeats.proofs.RowLaws.{next_found, next_none, row_in_lem}
use Rattle.emit.proofs.Did.{Fit}
use Rattle.repeats.proofs.add_rows.Goals as goal
use Rattle.repeats.proofs.add_rows.Goals.{Start}

pub loop-r-init : goal.loop-r-init
loop-r-init c = so_start _ _ _ _ _ _ _ _ _ c.requires.0 c.requires.4

pub close-requires : goal.close-requires
close-requires c = let x = c.loop-r.invariant in (so_small _ _ _ _ _ _ _ _ _ _ _ x, c.requires.6, omega (arith, x.holds.fits, x.holds.few, x.holds.space), omega (arith, x.holds.fits, x.holds.few), so_written _ _ _ _ _ _ _ _ _ _ _ x c.requires.5)

pub returns : goal.returns
returns c = let a = c.args in let z : Fit a.doc.now a.segments.now a.findings.now a.stops.now = record { document = omega (arith, (goal.at.returns c).Start); segments = omega (arith, (goal.at.returns c).Start); findings = omega (arith, (goal.at.returns c).Start); stops = omega (arith, (goal.at.returns c).Start) } in so_end _ _ _ _ _ _ _ _ _ _ _ c.loop-r.invariant _ z (next_none (hooked_at a.nest.array.now a.w.base a.s.l.0 a.p.0) c.loop-r.k a.w.rows _ c.next_hooked.ensures c.in_default.is) c.close.ensures.0 c.close.ensures.1

pub add_next-c-requires : goal.add_next-c-requires
add_next-c-requires c = let x = c.loop-r.invariant in let a = c.args in let y = next_found (hooked_at a.nest.array.now a.w.base a.s.l.0 a.p.0) c.loop-r.k a.w.rows _ c.next_hooked.ensures _ c.in-Some.is in (so_small _ _ _ _ _ _ _ _ _ _ _ x, c.requires.1, row_in_lem a.w a.s.table _ c.requires.3 c.requires.7 y.within, x.holds, so_written _ _ _ _ _ _ _ _ _ _ _ x c.requires.5, c.requires.6)

pub loop-r-smaller : goal.loop-r-smaller
loop-r-smaller c = let a = c.args in let y = next_found (hooked_at a.nest.array.now a.w.base a.s.l.0 a.p.0) c.loop-r.k a.w.rows _ c.next_hooked.ensures _ c.in-Some.is in omega (arith, y.from_there, y.within)

pub loop-r-preserved : goal.loop-r-preserved
loop-r-preserved c = let a = c.args in let z : Fit a.doc.now a.segments.now a.findings.now a.stops.now = record { document = omega (arith, (goal.at.loop-r-preserved c).Start); segments = omega (arith, (goal.at.loop-r-preserved c).Start); findings = omega (arith, (goal.at.loop-r-preserved c).Start); stops = omega (arith, (goal.at.loop-r-preserved c).Start) } in let y = next_found (hooked_at a.nest.array.now a.w.base a.s.l.0 a.p.0) c.loop-r.k a.w.rows _ c.next_hooked.ensures _ c.in-Some.is in so_next _ _ _ _ _ _ _ _ _ _ _ c.loop-r.invariant _ _ z y c.add_next-c.ensures
