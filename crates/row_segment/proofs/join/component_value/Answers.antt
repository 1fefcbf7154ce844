use Rattle.row_segment.proofs.StreamLaws.{left_less}
use Rattle.row_segment.proofs.GroupLaws.{finding_start, finding_next, found_here, found_else, found_none}
use Rattle.row_segment.proofs.join.component_value.Goals as goal

pub loop-a-init : goal.loop-a-init
loop-a-init c = finding_start _ _ _ _ _ c.requires.1

pub returns-then-p-e : goal.returns-then-p-e
returns-then-p-e c = found_else _ _ _ _ _ _ c.loop-a.invariant _ (c.held.ensures.text _) c.in-Some.is c.if-p-e.true

pub returns-then-component_of-c : goal.returns-then-component_of-c
returns-then-component_of-c c = found_here _ _ _ _ _ _ c.loop-a.invariant _ _ c.in-Some.is c.if-p-e.false c.component_of.ensures c.if-component_of-c.true c.text_of-w.ensures.text

pub loop-a-smaller : goal.loop-a-smaller
loop-a-smaller c = left_less c.loop-a.a c.next_part-a.result c.requires.0 c.in-Some.is c.next_part-a.ensures

pub loop-a-preserved : goal.loop-a-preserved
loop-a-preserved c = finding_next _ _ _ _ _ _ c.loop-a.invariant _ _ c.in-Some.is c.if-p-e.false c.component_of.ensures c.if-component_of-c.false c.next_part-a.ensures

pub returns : goal.returns
returns c = found_none _ _ _ _ _ _ c.loop-a.invariant _ (c.held-2.ensures.text _) c.in_default.is
