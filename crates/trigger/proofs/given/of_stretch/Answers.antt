use Rattle.texts.specs.Reason.{gives}
use Rattle.trigger.proofs.Givens.{told}
use Rattle.trigger.proofs.given.of_stretch.Goals as goal

pub returns : goal.returns
returns c = λ job v h. told job (gives v) c.args.field _ (rw h.bytes at (c.code_text-given.ensures.writes job)) c.code_text-given.ensures.plain
