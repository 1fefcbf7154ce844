use Prim.Native.Nat.{◌≤◌}
use native.Mathlib.Omega.{arith}
use lib.ListN.{length}
use Rattle.lent.proofs.Fit.{wide}
use Rattle.row_segment.proofs.StreamLaws.{left_less}
use Rattle.row_segment.proofs.NoteLaws.{between_none, between_next, between_room, between_end}
use Rattle.row_segment.proofs.notes.note_rest.Goals as goal
use Rattle.row_segment.proofs.notes.note_rest.Goals.{Start}

pub loop-a-init : goal.loop-a-init
loop-a-init c = (between_none _ _ _ _ _, c.requires.2)

pub note_text-s-requires : goal.note_text-s-requires
note_text-s-requires c = (c.requires.1, c.text_of-w.ensures, let h = between_room c.loop-a.invariant.0 c.requires.3 in omega (arith, h))

pub loop-a-smaller : goal.loop-a-smaller
loop-a-smaller c = left_less c.loop-a.a c.next_part-a.result c.requires.0 c.in-Some.is c.next_part-a.ensures

pub loop-a-preserved : goal.loop-a-preserved
loop-a-preserved c = let h : length c.args.findings.now ≤ wide = omega (arith, (goal.at.loop-a-preserved c).Start) in (between_next c.loop-a.invariant.0 _ h c.in-Some.is c.note_text-s.ensures c.next_part-a.ensures, c.next_part-a.ensures.sees)

pub returns : goal.returns
returns c = between_end c.loop-a.invariant.0 c.in_default.is c.loop-a.invariant.1 c.requires.4
