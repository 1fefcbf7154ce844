use Rattle.tables.proofs.Asking.{first_there}
use Rattle.tables.proofs.data.first_row.Goals as goal

pub returns : goal.returns
returns c = first_there _ _ c.requires _ _ _ _ c.data_count.ensures c.min-before.ensures c.place.ensures.0
