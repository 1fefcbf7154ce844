use Rattle.places.proofs.Turning.{held_nothing, held_field_lem}
use Rattle.places.proofs.triggers.position_gives.Goals as goal

pub returns-in-None : goal.returns-in-None
returns-in-None c = held_nothing _ _ _ _ c.field_at.ensures c.in-None.is

pub returns-in-Some : goal.returns-in-Some
returns-in-Some c = held_field_lem _ _ _ _ c.field_at.ensures _ _ c.in-Some.is c.field_gives.ensures
