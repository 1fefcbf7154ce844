use mathlib.Core.Path.{ap, ◌∙◌}
use Rattle.emit.proofs.FindingLaws.{none_stored}
use Rattle.emit.proofs.PutLaws.{cell_findings}
use Rattle.emit.specs.Puts.{place_of}
use Rattle.nest.specs.Finding.{cell, number_from}
use Rattle.format.specs.Sections.{job_of}
use Rattle.repeat_segment.specs.Planned.{id_of}
use Rattle.repeat_segment.proofs.fill.note_text.Goals as goal

pub returns-then-silent : goal.returns-then-silent
returns-then-silent c = let a = c.args in let j = a.job.at.bytes.now in let i = id_of j a.s in rw (cell_findings j (job_of j) i a.p a.component a.s.table.0 a.column a.r.0 c.cell_text-x.result (rw c.requires.0.id.bytes at c.cell_text-x.ensures) a.d c.requires.1 ∙ c.silent.ensures (cell a.s.table.0 a.r.0 a.column) (place_of i a.p a.component) c.if-silent.true) (none_stored c.more.ensures)

pub returns : goal.returns
returns c = let a = c.args in let j = a.job.at.bytes.now in let i = id_of j a.s in rw (cell_findings j (job_of j) i a.p a.component a.s.table.0 a.column a.r.0 c.cell_text-x.result (rw c.requires.0.id.bytes at c.cell_text-x.ensures) a.d c.requires.1) (c.note_cell.ensures (cell a.s.table.0 a.r.0 a.column) (place_of i a.p a.component) (c.cell_spot-w.ensures i (c.id_number-identifier.ensures ∙ ap (number_from 0) c.requires.0.id.bytes)))
