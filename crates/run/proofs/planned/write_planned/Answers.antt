use mathlib.Core.Path.{ap, ◌∙◌}
use Rattle.std.specs.Prelude.{Some}
use Rattle.run.specs.declared.segments.Due.TheVariants as due
use Rattle.run.proofs.Taking.{takes_nothing, takes, row_took, repeat_few, repeat_table_lem, repeat_room}
use Rattle.run.proofs.planned.write_planned.Goals as goal

pub returns-in-None : goal.returns-in-None
returns-in-None c = takes_nothing _ c.segment_due-due.ensures c.in-None.is c.requires.0.small

pub returns-in-Some-Opener : goal.returns-in-Some-Opener
returns-in-Some-Opener c = takes _ c.segment_due-due.ensures due.Opener (c.in-Some-Opener.is ∙ ap Some (rw c.in-Some-Opener.is at c.in-Some-Opener.field-0-is)) (c.write_trigger.ensures _)

pub returns-in-Some-Row : goal.returns-in-Some-Row
returns-in-Some-Row c = takes _ c.segment_due-due.ensures (due.Row _ _) (c.in-Some-Row.is ∙ ap Some (rw c.in-Some-Row.is at c.in-Some-Row.field-0-is)) (row_took _ c.args.l.0 c.args.i _ _ c.args.s.now c.write_row-s.ensures _)

pub write_chunks-requires : goal.write_chunks-requires
write_chunks-requires c =
    let is = c.in-Some-Repeat.is ∙ ap Some (rw c.in-Some-Repeat.is at c.in-Some-Repeat.field-0-is) in
    let due = c.segment_due-due.ensures in
    (c.requires.0.small, c.requires.0.loop, repeat_table_lem _ due _ _ is, repeat_few _ due _ _ is, repeat_room _ due _ _ is c.requires.1)

pub returns-in-Some-Repeat : goal.returns-in-Some-Repeat
returns-in-Some-Repeat c = takes _ c.segment_due-due.ensures (due.Repeat _ _) (c.in-Some-Repeat.is ∙ ap Some (rw c.in-Some-Repeat.is at c.in-Some-Repeat.field-0-is)) c.write_chunks.ensures
