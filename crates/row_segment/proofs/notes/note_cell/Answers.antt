use mathlib.Core.Path.{◌∙◌}
use Rattle.row_segment.specs.Stream.{id_of}
use Rattle.row_segment.proofs.NoteLaws.{cell_notes}
use Rattle.emit.proofs.FindingLaws.{none_stored}
use Rattle.row_segment.proofs.notes.note_cell.Goals as goal

pub returns-then-silent : goal.returns-then-silent
returns-then-silent c = let a = c.args in rw (cell_notes _ _ _ a.w a.y _ c.requires.0 c.requires.1 c.requires.2 ∙ c.silent.ensures _ _ c.if-silent.true) (none_stored c.more.ensures)

pub returns : goal.returns
returns c = let a = c.args in rw (cell_notes _ _ _ a.w a.y _ c.requires.0 c.requires.1 c.requires.2) (c.note_cell.ensures _ _ (c.cell_spot-place.ensures (id_of a.job.now a.x) c.requires.0.name))
