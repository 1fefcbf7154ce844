use Rattle.std.specs.Prelude.{◌-◌, ◌≡◌}
use Rattle.codec.specs.Codec.{le_c}
use Rattle.codec.specs.Skip.{skip, steps}
use Rattle.format.specs.Spec.{loop_c}
use Rattle.tree.proofs.loops.loop_place.Given as goal

abbrev pub invariant-loop-k : goal.invariant-loop-k
invariant-loop-k l = steps loop_c l.s.bytes.now l.s.end l.i (skip (le_c 4) l.s.bytes.now l.at l.s.end) ≡ steps loop_c l.s.bytes.now l.s.end (l.i - l._k) l.p
