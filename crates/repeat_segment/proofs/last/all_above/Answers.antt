use Rattle.repeat_segment.proofs.ZeroLaws.{above_start, above_next, above_end, above_not}
use Rattle.repeat_segment.proofs.Steps.{stands_here, read_step}
use Rattle.repeat_segment.proofs.last.all_above.Goals as goal

pub loop-i-init : goal.loop-i-init
loop-i-init c = above_start _ _ c.requires

pub element_at-e-requires : goal.element_at-e-requires
element_at-e-requires c = stands_here _ _ c.requires _ _ c.loop-i.invariant.along c.loop-i-test.true

pub returns-then-e-eq0 : goal.returns-then-e-eq0
returns-then-e-eq0 c = above_not _ _ c.requires c.element_at-e.result c.loop-i-test.true (read_step _ _ c.requires _ _ c.loop-i.invariant.along c.loop-i-test.true _ c.element_at-e.ensures) c.if-e-eq0.true

pub loop-i-preserved : goal.loop-i-preserved
loop-i-preserved c = above_next _ _ c.requires c.element_at-e.result c.loop-i-test.true c.loop-i.invariant (read_step _ _ c.requires _ _ c.loop-i.invariant.along c.loop-i-test.true _ c.element_at-e.ensures) c.if-e-eq0.false

pub returns : goal.returns
returns c = above_end _ _ c.requires c.loop-i-test.false c.loop-i.invariant
