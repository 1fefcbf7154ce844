use Rattle.repeat_segment.proofs.OrderLaws.{rises_start, rises_next, rises_end}
use Rattle.repeat_segment.proofs.Steps.{stands_here, read_step}
use Rattle.repeat_segment.proofs.order.row_behind.Goals as goal

pub loop-i-init : goal.loop-i-init
loop-i-init c = rises_start _ _ c.requires.0 _ _

pub element_at-e-requires : goal.element_at-e-requires
element_at-e-requires c = stands_here _ _ c.requires.0 _ _ c.loop-i.invariant.along c.loop-i-test.true

pub behind-requires : goal.behind-requires
behind-requires c = let p = c.requires in ((read_step _ _ p.0 _ _ c.loop-i.invariant.along c.loop-i-test.true _ c.element_at-e.ensures).low, p.0.near, p.1)

pub loop-i-preserved : goal.loop-i-preserved
loop-i-preserved c = let o = c.requires.0 in rises_next _ _ o _ c.element_at-e.result c.behind.result c.in_ok-last.was c.loop-i-test.true c.loop-i.invariant (read_step _ _ o _ _ c.loop-i.invariant.along c.loop-i-test.true _ c.element_at-e.ensures) (λ row. c.behind.ensures _ row)

pub returns : goal.returns
returns c = rises_end _ _ c.requires.0 _ c.loop-i-test.false c.loop-i.invariant
