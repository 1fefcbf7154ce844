use Rattle.repeat_segment.proofs.OrderLaws.{fed_start, fed_next, fed_end, fed_long}
use Rattle.repeat_segment.proofs.Steps.{stands_here, read_step}
use Rattle.repeat_segment.proofs.order.put_row.Goals as goal

pub loop-i-init : goal.loop-i-init
loop-i-init c = fed_start _ _ c.requires.0 _ _

pub element_at-e-requires : goal.element_at-e-requires
element_at-e-requires c = stands_here _ _ c.requires.0 _ _ c.loop-i.invariant.along c.loop-i-test.true

pub put_element-t-requires : goal.put_element-t-requires
put_element-t-requires c = let p = c.requires in (p.0, (read_step _ _ p.0 _ _ c.loop-i.invariant.along c.loop-i-test.true _ c.element_at-e.ensures).low, p.1)

pub loop-i-preserved : goal.loop-i-preserved
loop-i-preserved c = let o = c.requires.0 in fed_next _ _ o _ _ c.element_at-e.result c.loop-i-test.true c.loop-i.invariant (read_step _ _ o _ _ c.loop-i.invariant.along c.loop-i-test.true _ c.element_at-e.ensures) c.put_element-t.ensures

pub shape_of-doc : goal.shape_of-doc
shape_of-doc c = fed_long _ _ c.requires.0 _ _ c.loop-i.invariant

pub returns : goal.returns
returns c = fed_end _ _ c.requires.0 _ _ c.loop-i-test.false c.loop-i.invariant
