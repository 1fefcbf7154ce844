use native.Mathlib.Omega.{arith}
use mathlib.Core.Path.{refl}
use Rattle.codec.proofs.Ways.{case_is, case_not}
use Rattle.places.proofs.Reading.{reach_group, reach_one}
use Rattle.places.proofs.spots.reach_at.Goals as goal

pub returns-then-eq : goal.returns-then-eq
returns-then-eq c = rw c.room.ensures (reach_group _ _ _ _ _ (case_is _ _ _ _ c.case.ensures _ _ c.eq.ensures c.if-eq.true) refl)

pub returns : goal.returns
returns c = reach_one _ _ _ _ _ refl (case_not _ _ _ _ c.case.ensures _ _ c.eq.ensures c.if-eq.false (omega arith))
