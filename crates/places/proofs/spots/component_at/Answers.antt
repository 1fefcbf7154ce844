use native.Mathlib.Omega.{arith}
use mathlib.Core.Path.{refl}
use Rattle.codec.proofs.Ways.{case_is, case_not}
use Rattle.places.proofs.Reading.{component_some, component_none}
use Rattle.places.proofs.spots.component_at.Goals as goal

pub returns-then-eq : goal.returns-then-eq
returns-then-eq c = component_some _ _ _ _ (case_is _ _ _ _ c.case.ensures _ _ c.eq.ensures c.if-eq.true) _ _ refl c.le_at-p.ensures c.count_at.ensures.0

pub returns : goal.returns
returns c = component_none _ _ _ _ refl (case_not _ _ _ _ c.case.ensures _ _ c.eq.ensures c.if-eq.false (omega arith))
