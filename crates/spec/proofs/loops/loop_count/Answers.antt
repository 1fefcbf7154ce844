use Rattle.codec.proofs.Field.{count_of, stands_at, stands_list}
use Rattle.spec.proofs.loops.loop_count.Goals as goal

pub num_in-requires : goal.num_in-requires
num_in-requires c = stands_list _ _ _ (stands_at _ _ _ _ _ _ c.place-p.ensures.0 c.requires.within c.requires.loops)

pub returns : goal.returns
returns c = count_of _ _ _ _ _ _ _ c.num_in.ensures.0 c.place-p.ensures.0 c.requires.loops
