use Rattle.std.proofs.Common.{rules}
use mathlib.Core.Path.{ap, ◌∙◌}
use Rattle.texts.specs.Said.{why_in}
use Rattle.texts.proofs.Answers.{no_reason}
use Rattle.nest.specs.Finding.{cell, number_from}
use Rattle.emit.specs.Puts.{place_of}
use Rattle.emit.proofs.FindingLaws.{stored_no_reason}
use Rattle.row_segment.specs.Stream.{id_of}
use Rattle.row_segment.proofs.notes.note_refused.Goals as goal

pub returns-then-is_none : goal.returns-then-is_none
returns-then-is_none c = stored_no_reason _ _ (why_in c.args.why) (no_reason _ (search rules)) c.more.ensures

pub returns : goal.returns
returns c = let a = c.args in let id = id_of a.job.now a.x in c.note_reason.ensures (cell a.x.t.0 a.x.r.0 a.column) (place_of id a.p.element a.p.component) (c.cell_spot-place.ensures id (c.id_number-name.ensures ∙ ap (number_from 0) c.requires.0.bytes))
