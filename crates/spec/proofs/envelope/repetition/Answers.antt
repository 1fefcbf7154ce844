use Rattle.codec.proofs.Field.{is_at, stands_at}
use Rattle.spec.proofs.envelope.repetition.Goals as goal

pub byte_number_at-requires : goal.byte_number_at-requires
byte_number_at-requires c = stands_at _ _ _ _ _ _ c.place-p.ensures.0 c.requires.within c.requires.repetition

pub returns : goal.returns
returns c = c.byte_number_at.ensures _ _ (is_at _ _ _ _ _ _ c.place-p.ensures.0 c.requires.repetition)
