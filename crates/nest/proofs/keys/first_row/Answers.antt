use Rattle.nest.proofs.Rising.{known_any, known_rising}
use Rattle.nest.proofs.keys.first_row.Goals as goal

pub returns-in-Any : goal.returns-in-Any
returns-in-Any c = known_any _ _ _ _ c.requires c.known.ensures _ _ c.in-Any.is c.first_with.ensures

pub returns-in-Rising : goal.returns-in-Rising
returns-in-Rising c = known_rising _ _ _ _ c.requires c.known.ensures _ _ c.in-Rising.is c.search_near.ensures
