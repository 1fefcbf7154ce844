use Rattle.trigger.proofs.Givens.{told}
use Rattle.trigger.proofs.given.of_said.Goals as goal

pub returns : goal.returns
returns c = λ job o h s. told job o c.args.field _ (c.of_said-given.ensures.writes job o s) (c.of_said-given.ensures.plain o s h)
