use Rattle.row_segment.specs.Stream.{outcome_of}
use Rattle.row_segment.proofs.parts.text_of.Goals as goal

pub returns-in-Cell : goal.returns-in-Cell
unfolding outcome_of
returns-in-Cell c = rw c.in-Cell.is (rw c.requires.id.bytes at c.cell_text.ensures)

pub returns-in-Code : goal.returns-in-Code
unfolding outcome_of
returns-in-Code c = rw c.in-Code.is (c.code_text.ensures.writes _)
