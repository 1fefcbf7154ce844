use Rattle.spec.proofs.Cursor.{entries_of, segment_room}
use mathlib.Core.Path.{refl}
use Rattle.spec.proofs.elements.elements.Goals as goal

pub num_in-left-requires : goal.num_in-left-requires
num_in-left-requires c = segment_room _ _ c.requires

pub returns : goal.returns
returns c = entries_of _ _ _ c.num_in-left.ensures.0 refl
