use Rattle.codec.proofs.Field.{is_at, stands_le, stands_at}
use Rattle.spec.proofs.ReadsLaws.{num_reads}
use Rattle.spec.proofs.envelope.time.Goals as goal

pub num_in-requires : goal.num_in-requires
num_in-requires c = stands_le _ _ _ (stands_at _ _ _ _ _ _ c.place-p.ensures.0 c.requires.within c.requires.time)

pub returns : goal.returns
returns c = num_reads _ _ _ c.num_in.ensures.0 _ _ (is_at _ _ _ _ _ _ c.place-p.ensures.0 c.requires.time)
