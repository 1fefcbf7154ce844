use Rattle.trigger.proofs.Givens.{code_or}
use Rattle.trigger.proofs.given.code_source.Goals as goal

pub returns : goal.returns
returns c = λ job y h. c.of_stretch.ensures job _ (code_or h _ c.unwrap_or.ensures)
