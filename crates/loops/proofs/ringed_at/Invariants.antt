use Rattle.std.specs.Prelude.{◌-◌}
use Rattle.loops.proofs.Tangle.{Climbs}
use Rattle.loops.proofs.ringed_at.Given as goal

abbrev pub invariant-loop-k : goal.invariant-loop-k
invariant-loop-k l = Climbs l.loops.section.bytes.now l.loops.section.end l.loops.at l.i (l.n - l._k) l.l
