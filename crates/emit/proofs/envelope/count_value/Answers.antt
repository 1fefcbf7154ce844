use Rattle.texts.specs.Pad.{zero_padded, control_text}
use Rattle.emit.proofs.envelope.count_value.Goals as goal

pub returns : goal.returns
unfolding control_text zero_padded
returns c = λ job. c.control_value.ensures job
