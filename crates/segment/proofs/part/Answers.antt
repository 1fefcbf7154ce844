use Prim.Native.Nat.{◌≤◌}
use native.Mathlib.Omega.{arith}
use lib.ListN.{length}
use Rattle.lent.specs.Fit.{cap}
use Rattle.lent.specs.Window.{stretch}
use Rattle.lent.proofs.Laws.{stored_append}
use Rattle.segment.proofs.Strokes.{placed_none, penned_none, penned_text}
use Rattle.segment.proofs.Texts.{some_there, none_there}
use Rattle.segment.proofs.part.Goals as goal
use Rattle.segment.proofs.part.Goals.{Start}

pub returns-then-n-eq0 : goal.returns-then-n-eq0
returns-then-n-eq0 c =
    let a = c.args in
    rw (placed_none a.s a.pen a.p a.c (stretch a.source.now a.start a.len) (none_there (stretch a.source.now a.start a.len) (omega (arith, c.stretch_len-n.ensures)))) (penned_none a.pen c.stay.ensures)

pub returns : goal.returns
returns c =
    let a = c.args in
    let h : length a.doc.now ≤ cap = omega (arith, (goal.at.returns c).Start) in
    let x = stored_append _ _ h c.put_due-a.ensures c.put_stretch-b.ensures in
    penned_text a.s a.pen a.p a.c (stretch a.source.now a.start a.len) (some_there (stretch a.source.now a.start a.len) (omega (arith, c.stretch_len-n.ensures))) x c.reach.ensures
