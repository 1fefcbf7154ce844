use Rattle.spec.specs.Answers.{stretch_of}
use Rattle.emit.proofs.CellLaws.{writes_as}
use Rattle.emit.proofs.cells.read_text.Goals as goal

pub returns-in-Some : goal.returns-in-Some
unfolding stretch_of
returns-in-Some c = writes_as (c.held_in.ensures.0 _ _ _ c.in-Some.is) (c.code_text.ensures.writes _)

pub returns-in-None : goal.returns-in-None
returns-in-None c = c.of_said.ensures.writes _ _ (c.own_text.ensures _ (c.held_in.ensures.1 c.in-None.is))
