use Prim.Native.Nat.{◌+◌}
use mathlib.Core.Path.{ap}
use Rattle.lent.specs.Window.{stretch}
use Rattle.emit.specs.Written.{tried}
use Rattle.row_segment.proofs.NoteLaws.{cell_entry}
use Rattle.row_segment.proofs.FeedLaws.{stood_silent, held_part, held_silent}
use Rattle.row_segment.proofs.feed.put_cell.Goals as goal

pub returns : goal.returns
returns c = let a = c.args in
    let q = c.requires in
    let b = a.job.at.bytes.now in
    let h = c.in-Some.h in
    let g = c.cell-cell.ensures in
    let e = c.held_in.ensures.0 b _ h c.in-Some.is in
    stood_silent b a.x a.p (stretch b h.start h.len)
    (held_part b a.x a.p a.column _ g q.3 h.start h.len e)
    (held_silent b a.x a.p a.column _ g q.3 h.start h.len e (tried a.d) q.1
    (c.stretch_holds.ensures _ _ c.if-stretch_holds.false))
    (ap (λ n. a.entries + n) (cell_entry b a.x a.p q.3)) c.component_of-c.ensures c.put_stretch.ensures
