use native.Mathlib.Omega.{arith}
use mathlib.Core.Path.{sym, ap, ◌∙◌}
use Rattle.plan.specs.Answers.{item_of}
use Rattle.nest.proofs.Small.{order_small}
use Rattle.census.proofs.Counting.{below_start, below_segment, below_loop, below_end, entered_deep, entered_past, entered_over, entered_next, entered_leaf}
use Rattle.census.proofs.+below_entered.Goals as goal
use Rattle.census.proofs.+below_entered.Goals.{below-in-Segment, below-in-Loop, entered-then-leaf, entered-else-leaf}

pub below-loop-i-init : goal.below-loop-i-init
below-loop-i-init t c = below_start _ _ _ _ _ c.requires.2

pub below-entered-m-requires : goal.below-entered-m-requires
below-entered-m-requires t c = (omega (arith, c.args.nest.nested), (c.requires.0, order_small _ c.args.nest.nested.ready.passed _ _ _ _ c.order_count-count.ensures c.loop-i-test.true (sym (ap item_of c.in-Loop.is) ∙ c.item.ensures), c.loop-i.invariant.few))

pub below-loop-i-preserved : goal.below-loop-i-preserved
below-loop-i-preserved t c = elim c.match-item.branch [
  | below-in-Segment w ↦ rw (w.m-is, w.leaf-is) (below_segment _ _ _ _ _ _ _ _ c.loop-i.invariant _ c.order_count-count.ensures _ c.loop-i-test.true c.item.ensures _ w.in-Segment.is)
  | below-in-Loop w ↦ rw (w.m-is, w.leaf-is) (below_loop _ _ _ _ _ _ _ _ c.loop-i.invariant _ c.order_count-count.ensures _ c.loop-i-test.true c.item.ensures _ _ w.in-Loop.is w.entered-m.ensures)
]

pub below-returns : goal.below-returns
below-returns t c = below_end _ _ _ _ _ _ _ _ c.loop-i.invariant _ c.order_count-count.ensures c.loop-i-test.false

pub entered-returns-then-height-eq0 : goal.entered-returns-then-height-eq0
entered-returns-then-height-eq0 t c = entered_deep _ _ _ _ _ c.requires.2 c.if-height-eq0.true

pub entered-loop-m-preserved : goal.entered-loop-m-preserved
entered-loop-m-preserved t c = elim c.if-leaf.branch [
  | entered-then-leaf w ↦ rw (c.behind-cur.ensures, w.m-is, w.leaf-is) (entered_leaf _ _ _ _ _ _ _ _ _ c.loop-m.invariant _ c.next_instance.ensures _ c.in-Some.is _ c.one_more-with.ensures w.if-leaf.true)
  | entered-else-leaf w ↦ rw (c.behind-cur.ensures, w.m-is, w.leaf-is) (entered_next _ _ _ _ _ _ _ _ _ c.loop-m.invariant _ c.next_instance.ensures _ c.in-Some.is _ _ _ _ w.context_in-inner.ensures c.one_more-with.ensures w.below-b.ensures)
]

pub entered-returns-in_default : goal.entered-returns-in_default
entered-returns-in_default t c = entered_over _ _ _ _ _ _ _ _ _ c.loop-m.invariant _ c.if-height-eq0.false c.instances-cur.ensures.0 _ c.next_instance.ensures c.in_default.is

pub entered-returns : goal.entered-returns
entered-returns t c = entered_past _ _ _ _ _ _ _ _ _ c.loop-m.invariant _ c.if-height-eq0.false c.instances-cur.ensures.0 c.loop-m-test.false
