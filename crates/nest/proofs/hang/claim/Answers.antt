use Rattle.nest.proofs.Claiming.{loop_small, all_left, left_first, left_here, left_passed, left_lower, left_over, tried_none, tried_on, tried_here, tried_next, tried_end}
use Rattle.nest.proofs.Ways.{refers, refers_not}
use native.Mathlib.Omega.{arith}
use mathlib.Core.Path.{sym, ◌∙◌}
use Rattle.nest.proofs.hang.claim.Goals as goal
use Rattle.nest.proofs.hang.claim.Goals.{in-Some+in-None-reference, in-None}

pub loop-up-init : goal.loop-up-init
loop-up-init c = tried_none _ _ _ _ (all_left _ _ _ c.deepest-top.ensures.of)

pub loop-i-init : goal.loop-i-init
loop-i-init c = tried_on _ _ _ _ _ c.loop-up.invariant _ (left_first _ _ _ _ (omega (arith, c.loop-up-test.true)))

pub anchor-requires : goal.anchor-requires
anchor-requires c = (c.requires, loop_small _ c.args.job.ready.passed _ _ _ _ c.table_loop_count-n.ensures c.loop-i-test.true c.table_loop-l.ensures)

pub returns-in-Some-reference : goal.returns-in-Some-reference
returns-in-Some-reference c = tried_here _ _ _ _ _ c.loop-i.invariant _ _ _ _ (left_here _ _ _ _ _ _ c.table_loop_count-n.ensures c.loop-i-test.true c.table_loop-l.ensures _ (sym c.anchor.ensures ∙ c.in-Some.is)) (refers _ _ _ _ _ c.reference.ensures _ c.in-Some-reference.is)

pub loop-i-preserved : goal.loop-i-preserved
loop-i-preserved c = elim c.match-anchor.branch [
  | in-Some+in-None-reference w ↦ rw w.last-is (tried_next _ _ _ _ _ c.loop-i.invariant _ _ _ (left_here _ _ _ _ _ _ c.table_loop_count-n.ensures c.loop-i-test.true c.table_loop-l.ensures _ (sym c.anchor.ensures ∙ w.in-Some.is)) (refers_not _ _ _ _ _ w.reference.ensures w.in-None-reference.is))
  | in-None w ↦ rw w.last-is (tried_on _ _ _ _ _ c.loop-i.invariant _ (left_passed _ _ _ _ _ _ c.table_loop_count-n.ensures c.loop-i-test.true c.table_loop-l.ensures (sym c.anchor.ensures ∙ w.in-None.is)))
]

pub loop-up-preserved : goal.loop-up-preserved
loop-up-preserved c = tried_on _ _ _ _ _ c.loop-i.invariant _ (left_lower _ _ _ _ _ _ c.table_loop_count-n.ensures c.loop-i-test.false)

pub returns : goal.returns
returns c = tried_end _ _ _ _ _ c.loop-up.invariant (left_over _ _ _ _ (omega (arith, c.loop-up-test.false)))
