use Rattle.spec.specs.Answers.{stretch_of}
use Rattle.emit.proofs.ScaleLaws.{scale_read, scales_low}
use Rattle.repeat_segment.proofs.PlaceLaws.{text_source}
use Rattle.repeat_segment.proofs.order.put_source.Goals as goal

pub put_cell-requires : goal.put_cell-requires
put_cell-requires c = let q = c.requires in (q, rw (scale_read _ _ _ c.cell-cell.ensures) (scales_low _ c.args.job.ready.passed.fit _ _ _))

pub returns-in-Cell : goal.returns-in-Cell
returns-in-Cell c = let a = c.args in rw (text_source a.job.at.bytes.now a.s a.e a.p a.r.0, ← c.source_of-source.ensures, c.in-Cell.is) (rw c.cell-cell.ensures.cell at c.put_cell.ensures)

pub returns-in-Code : goal.returns-in-Code
unfolding stretch_of
returns-in-Code c = let a = c.args in rw (text_source a.job.at.bytes.now a.s a.e a.p a.r.0, ← c.source_of-source.ensures, c.in-Code.is) c.part.ensures
