use Rattle.nest.proofs.Claiming.{loop_small, all_left, left_first, left_here, left_passed, left_lower, left_over}
use Rattle.nest.proofs.Lining.{lining_none, lining_on, lining_next, lining_end}
use native.Mathlib.Omega.{arith}
use mathlib.Core.Path.{sym, ◌∙◌}
use Rattle.nest.proofs.hang.line_up.Goals as goal
use Rattle.nest.proofs.hang.line_up.Goals.{in-Some+else-n-eq8, in-None}

pub loop-up-init : goal.loop-up-init
loop-up-init c = lining_none _ _ _ (all_left _ _ _ c.deepest-top.ensures.of)

pub loop-i-init : goal.loop-i-init
loop-i-init c = lining_on _ _ _ _ _ c.loop-up.invariant _ (left_first _ _ _ _ (omega (arith, c.loop-up-test.true)))

pub anchor-requires : goal.anchor-requires
anchor-requires c = (c.requires, loop_small _ c.args.job.ready.passed _ _ _ _ c.table_loop_count-count.ensures c.loop-i-test.true c.table_loop-l.ensures)

pub loop-i-preserved : goal.loop-i-preserved
loop-i-preserved c = elim c.match-anchor.branch [
  | in-Some+else-n-eq8 w ↦ rw (w.n-is, w.anchors-is) (lining_next _ _ _ _ _ c.loop-i.invariant _ _ w.if-n-eq8.false (left_here _ _ _ _ _ _ c.table_loop_count-count.ensures c.loop-i-test.true c.table_loop-l.ensures _ (sym c.anchor.ensures ∙ w.in-Some.is)))
  | in-None w ↦ rw (w.n-is, w.anchors-is) (lining_on _ _ _ _ _ c.loop-i.invariant _ (left_passed _ _ _ _ _ _ c.table_loop_count-count.ensures c.loop-i-test.true c.table_loop-l.ensures (sym c.anchor.ensures ∙ w.in-None.is)))
]

pub loop-up-preserved : goal.loop-up-preserved
loop-up-preserved c = lining_on _ _ _ _ _ c.loop-i.invariant _ (left_lower _ _ _ _ _ _ c.table_loop_count-count.ensures c.loop-i-test.false)

pub returns : goal.returns
returns c = lining_end _ _ _ _ _ c.loop-up.invariant (left_over _ _ _ _ (omega (arith, c.loop-up-test.false)))
