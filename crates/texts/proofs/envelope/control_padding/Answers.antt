use Rattle.texts.proofs.Pads.{zeros_left}
use Rattle.texts.proofs.envelope.control_padding.Goals as goal

pub returns : goal.returns
returns c = λ text l. zeros_left _ _ _ text (rw (← c.unwrap_or.ensures) c.saturating_sub.ensures) l
