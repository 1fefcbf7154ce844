use Rattle.repeat_segment.proofs.PlaceLaws.{text_source}
use Rattle.repeat_segment.proofs.places.text.Goals as goal

pub returns-in-Cell : goal.returns-in-Cell
returns-in-Cell c = let a = c.args in rw (text_source a.job.at.bytes.now a.s a.e a.p a.r.0, ← c.source_of-source.ensures, c.in-Cell.is) (rw c.requires.id.bytes at c.cell_text.ensures)

pub returns-in-Code : goal.returns-in-Code
returns-in-Code c = let a = c.args in rw (text_source a.job.at.bytes.now a.s a.e a.p a.r.0, ← c.source_of-source.ensures, c.in-Code.is) (c.code_text.ensures.writes a.job.at.bytes.now)
