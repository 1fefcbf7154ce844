use Prim.Native.Nat.{◌-◌}
use Rattle.repeats.proofs.SoFar.{SoFar}
use Rattle.repeats.proofs.add_rows.Given as goal

abbrev pub invariant-loop-r : goal.invariant-loop-r
invariant-loop-r l = SoFar l.nest.job.at.bytes.now l.nest.array.now l.s.l.0 l.s.i l.s.table.0 l.w l.p.0 l.initial.c l.c l.initial.k l.k l.initial.rows l.rows l.initial.doc l.doc l.initial.segments l.segments l.initial.findings l.findings l.initial.stops l.stops

abbrev pub decreases-loop-r : goal.decreases-loop-r
decreases-loop-r l = l.w.rows - l.k
