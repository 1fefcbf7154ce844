use Rattle.emit.proofs.TextLaws.{padded_text}
use Rattle.emit.proofs.envelope.padded_value.Goals as goal

pub returns : goal.returns
returns c = let a = c.args in padded_text a.job.now _ a.numeric a.min a.max c.stretch_len-own.ensures c.stretch_len-held.ensures c.pad-padding.ensures
