use Rattle.format.specs.Sections.{job_of}
use Rattle.emit.specs.Puts.{put_cell}
use Rattle.emit.specs.Written.{tried}
use Rattle.repeat_segment.specs.Planned.{id_of}
use Rattle.repeat_segment.proofs.FillLaws.{no_finding, quiet_cell}
use Rattle.repeat_segment.proofs.fill.note_cell.Goals as goal

pub returns-then-quiet : goal.returns-then-quiet
returns-then-quiet c = let a = c.args in let j = a.job.at.bytes.now in let i = id_of j a.s in no_finding (put_cell (job_of j) i a.p a.component a.s.table.0 a.column a.r.0) (quiet_cell j i a.p a.component a.s.table.0 a.column a.r.0 (tried a.d) c.cell-cell.ensures c.requires.1 (λ o p max. c.quiet.ensures o p max c.if-quiet.true)) c.more.ensures
