use mathlib.Core.Path.{refl, sym}
use Rattle.places.proofs.Turning.{wrong_element_lem}
use Rattle.places.proofs.triggers.element_wrong.Goals as goal

pub returns-then-element_gives : goal.returns-then-element_gives
returns-then-element_gives c es o v i = wrong_element_lem _ es v _ _ _ (c.element_gives.ensures v i) (c.crowded_at.ensures es o v i) (sym (rw c.if-element_gives.true))

pub returns-else-element_gives : goal.returns-else-element_gives
returns-else-element_gives c es o v i = wrong_element_lem _ es v _ _ _ (c.element_gives.ensures v i) refl (sym (rw c.if-element_gives.false))
