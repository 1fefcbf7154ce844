use native.Mathlib.Omega.{arith}
use mathlib.Core.Path.{sym, ap, ◌∙◌}
use Rattle.plan.specs.Answers.{item_of}
use Rattle.nest.proofs.Small.{order_small}
use Rattle.census.proofs.Bounding.{most_deep, most_start, most_segment, most_loop, most_end}
use Rattle.census.proofs.+most.Goals as goal
use Rattle.census.proofs.+most.Goals.{in-Segment, in-Loop}

pub returns-then-height-eq0 : goal.returns-then-height-eq0
returns-then-height-eq0 t c = most_deep _ _ _ c.if-height-eq0.true

pub loop-i-init : goal.loop-i-init
loop-i-init t c = most_start _ _ _

pub most-m-requires : goal.most-m-requires
most-m-requires t c = (omega (arith, c.args.nest.nested, c.if-height-eq0.false), order_small _ c.args.nest.nested.ready.passed _ _ _ _ c.order_count-count.ensures c.loop-i-test.true (sym (ap item_of c.in-Loop.is) ∙ c.item.ensures))

pub loop-i-preserved : goal.loop-i-preserved
loop-i-preserved t c = elim c.match-item.branch [
  | in-Segment w ↦ rw w.s-is (most_segment _ _ _ _ _ c.loop-i.invariant _ c.order_count-count.ensures _ c.loop-i-test.true c.item.ensures _ w.in-Segment.is)
  | in-Loop w ↦ rw w.s-is (most_loop _ _ _ _ _ c.loop-i.invariant _ c.order_count-count.ensures _ c.loop-i-test.true c.item.ensures _ _ _ w.in-Loop.is w.most-m.ensures w.min-s.ensures)
]

pub returns : goal.returns
returns t c = most_end _ _ _ _ _ c.loop-i.invariant _ c.order_count-count.ensures _ _ c.loop-i-test.false c.if-height-eq0.false c.width-w.ensures c.min.ensures
