use Rattle.codec.proofs.Field.{is_at, stands_at}
use Rattle.spec.proofs.envelope.application_sender.Goals as goal

pub text_at-requires : goal.text_at-requires
text_at-requires c = stands_at _ _ _ _ _ _ c.place-p.ensures.0 c.requires.within c.requires.application_sender

pub returns : goal.returns
returns c = c.text_at.ensures _ _ c.requires.within (is_at _ _ _ _ _ _ c.place-p.ensures.0 c.requires.application_sender)
