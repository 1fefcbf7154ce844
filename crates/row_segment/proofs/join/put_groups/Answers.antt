use mathlib.Core.Path.{refl}
use Rattle.row_segment.proofs.NoteLaws.{between_none, between_trans, between_room}
use Rattle.row_segment.proofs.RowLaws.{rowing_start, rowing_next, rowing_below, rowing_none}
use Rattle.row_segment.proofs.join.put_groups.Goals as goal

pub loop-a-init : goal.loop-a-init
loop-a-init c = (rowing_start _ _ _ _ _ _ c.requires.2, between_none _ _ _ _ _)

pub returns-then-place-done : goal.returns-then-place-done
returns-then-place-done c = (rowing_below _ _ _ _ _ _ _ _ _ _ c.loop-a.invariant.0 _ _ c.in-Some.is refl c.if-place-done.true, c.loop-a.invariant.1)

pub put_next-g-requires : goal.put_next-g-requires
put_next-g-requires c = (c.requires.0, c.requires.1, c.loop-a.invariant.0.sees, between_room c.loop-a.invariant.1 c.requires.3)

pub loop-a-preserved : goal.loop-a-preserved
loop-a-preserved c = (rowing_next _ _ _ _ _ _ _ _ _ _ c.loop-a.invariant.0 _ c.put_next-g.result _ c.in-Some.is refl c.if-place-done.false c.put_next-g.ensures.0, between_trans c.loop-a.invariant.1 c.put_next-g.ensures.1)

pub returns : goal.returns
returns c = (rowing_none _ _ _ _ _ _ _ _ _ _ c.loop-a.invariant.0 _ c.in_default.is, c.loop-a.invariant.1)
