use Rattle.codec.proofs.Field.{is_at, stands_at}
use Rattle.spec.proofs.envelope.receiver_id.Goals as goal

pub stretch_at-requires : goal.stretch_at-requires
stretch_at-requires c = stands_at _ _ _ _ _ _ c.place-p.ensures.0 c.requires.within c.requires.receiver_id

pub returns : goal.returns
returns c = c.stretch_at.ensures _ _ c.requires.within (is_at _ _ _ _ _ _ c.place-p.ensures.0 c.requires.receiver_id)
