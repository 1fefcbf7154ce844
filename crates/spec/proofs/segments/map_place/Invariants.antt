use Rattle.codec.specs.Forms.{num_c}
use Rattle.codec.specs.Codec.{◌⊗◌}
use Rattle.codec.specs.Skip.{steps}
use Rattle.spec.proofs.Found.{Others}
use Prim.Native.Nat.{◌+◌}
use mathlib.Core.Path.{◌≡◌}
use Rattle.spec.proofs.segments.map_place.Given as goal

abbrev pub invariant-loop-k : goal.invariant-loop-k
invariant-loop-k g l = (l.p ≡ steps (num_c ⊗ g.F.Form.codec) l.s.bytes.now l.s.end l._k (l.at + 4)) × Others g.F.Form.codec l.s.bytes.now l.s.end l.at l.number l._k
