use mathlib.Core.Path.{refl}
use Rattle.codec.proofs.Field.{stands_at, stands_list}
use Rattle.spec.proofs.loops.loop_field.Goals as goal

pub row_place-requires : goal.row_place-requires
row_place-requires c = stands_list _ _ _ (stands_at _ _ _ _ _ _ refl c.requires.within c.requires.loops)
