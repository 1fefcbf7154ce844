use Rattle.repeat_segment.proofs.HighLaws.{high_start, high_next, high_end}
use Rattle.repeat_segment.proofs.Steps.{stands_here, read_step}
use Rattle.repeat_segment.proofs.last.highest_in.Goals as goal

pub loop-i-init : goal.loop-i-init
loop-i-init c = high_start _ _ c.requires _ _ _

pub element_at-e-requires : goal.element_at-e-requires
element_at-e-requires c = stands_here _ _ c.requires _ _ c.loop-i.invariant.along c.loop-i-test.true

pub highest_of-requires : goal.highest_of-requires
highest_of-requires c = (c.requires, (read_step _ _ c.requires _ _ c.loop-i.invariant.along c.loop-i-test.true _ c.element_at-e.ensures).low)

pub loop-i-preserved : goal.loop-i-preserved
loop-i-preserved c = let o = c.requires in rw c.max-best.ensures (high_next _ _ o _ _ _ c.element_at-e.result _ c.loop-i-test.true c.loop-i.invariant (read_step _ _ o _ _ c.loop-i.invariant.along c.loop-i-test.true _ c.element_at-e.ensures) c.highest_of.ensures)

pub returns : goal.returns
returns c = high_end _ _ c.requires _ _ _ c.loop-i-test.false c.loop-i.invariant
