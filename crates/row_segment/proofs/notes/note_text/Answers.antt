use native.Mathlib.Omega.{arith}
use Prim.Native.Nat.{◌+◌}
use mathlib.Core.Path.{ap}
use Rattle.emit.proofs.FindingLaws.{none_stored}
use Rattle.row_segment.proofs.NoteLaws.{cell_entry, code_entry, code_notes, noted}
use Rattle.row_segment.proofs.notes.note_text.Goals as goal

pub returns-in-Cell : goal.returns-in-Cell
returns-in-Cell c = let a = c.args in let j = a.job.now in noted j a.x a.p _ c.requires.1.text c.note_cell.ensures (ap (λ n. a.s.entries + n) (cell_entry j a.x a.p c.in-Cell.is)) c.raised-last.ensures

pub returns-in-Code : goal.returns-in-Code
returns-in-Code c = let a = c.args in
    let j = a.job.now in
    let e = code_entry j a.x a.p c.in-Code.is in
    noted j a.x a.p _ c.requires.1.text (rw (code_notes j a.x a.p c.in-Code.is) (none_stored c.more.ensures)) (omega (arith, e)) c.raised-last.ensures
