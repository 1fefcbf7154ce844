use Rattle.spec.specs.Found.{PlaceOf}
use Rattle.codec.specs.Forms.{num_c}
use Rattle.codec.specs.Codec.{◌⊗◌}
use Rattle.codec.specs.Skip.{steps}
use Rattle.codec.proofs.Skip.{skip_pair}
use Rattle.spec.proofs.Found.{others_more, number_found, number_missing, steps_last}
use native.Mathlib.Omega.{arith}
use mathlib.Core.Path.{refl}
use Rattle.spec.proofs.segments.map_place.Goals as goal

pub loop-k-init : goal.loop-k-init
unfolding steps
loop-k-init g c = (refl, λ xs d h i r q. absurd (omega arith))

pub returns-then-key-number : goal.returns-then-key-number
unfolding PlaceOf
returns-then-key-number g c = number_found g.F.Form.codec _ _ _ _ _ _ c.loop-k.invariant.0 _ _ _ c.loop-k.invariant.1 c.count_at-n.ensures.0 (omega arith) c.count_at-key.ensures.0 c.if-key-number.true c.le_at-value.ensures

pub loop-k-preserved : goal.loop-k-preserved
loop-k-preserved g c = (steps_last (num_c ⊗ g.F.Form.codec) _ _ _ _ _ _ c.loop-k.invariant.0 (cc (skip_pair num_c g.F.Form.codec _ _ _)), others_more g.F.Form.codec _ _ _ _ _ _ c.loop-k.invariant.0 _ c.loop-k.invariant.1 c.count_at-key.ensures.0 c.if-key-number.false)

pub returns : goal.returns
unfolding PlaceOf
returns g c = number_missing g.F.Form.codec _ _ _ _ _ _ c.loop-k.invariant.1 c.count_at-n.ensures.0 (omega arith)
