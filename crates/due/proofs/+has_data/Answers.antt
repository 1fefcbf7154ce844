use native.Mathlib.Omega.{arith}
use Rattle.due.proofs.Bridge.{child_small}
use Rattle.due.proofs.Loops.{deep, at_own, below_own, elsewhere, below_here, below_next, below_end}
use Rattle.due.proofs.+has_data.Goals as goal
use Rattle.due.proofs.+has_data.Goals.{else-inside-via-then-inside+else-has_data, else-inside-via-else-inside}

pub returns-then-height-eq0 : goal.returns-then-height-eq0
returns-then-height-eq0 t c = deep _ _ _ _ _ c.if-height-eq0.true

pub returns-then-own_data : goal.returns-then-own_data
returns-then-own_data t c = at_own _ _ _ _ _ _ c.if-height-eq0.false c.own_data.ensures c.if-own_data.true

pub loop-k-init : goal.loop-k-init
loop-k-init t c = below_own _ _ _ _ _ _ c.if-height-eq0.false c.own_data.ensures c.if-own_data.false

pub inside-requires : goal.inside-requires
inside-requires t c = child_small _ c.args.job.ready.passed _ _ _ _ c.child_count-n.ensures c.loop-k-test.true c.child-c.ensures

pub has_data-requires : goal.has_data-requires
has_data-requires t c = (omega arith, child_small _ c.args.job.ready.passed _ _ _ _ c.child_count-n.ensures c.loop-k-test.true c.child-c.ensures)

pub returns-then-has_data : goal.returns-then-has_data
returns-then-has_data t c = below_here _ _ _ _ _ _ _ c.child_count-n.ensures c.loop-k.invariant _ _ c.loop-k-test.true c.child-c.ensures c.inside.ensures _ c.if-inside.true c.has_data.ensures c.if-has_data.true

pub loop-k-preserved : goal.loop-k-preserved
loop-k-preserved t c =
    elim c.else-inside.branch [
      | else-inside-via-then-inside+else-has_data w ↦ below_next _ _ _ _ _ _ _ c.child_count-n.ensures c.loop-k.invariant _ _ c.loop-k-test.true c.child-c.ensures c.inside.ensures _ w.if-inside.true w.has_data.ensures w.if-has_data.false
      | else-inside-via-else-inside w ↦ elsewhere _ _ _ _ _ _ _ c.child_count-n.ensures c.loop-k.invariant _ _ c.loop-k-test.true c.child-c.ensures c.inside.ensures w.if-inside.false
    ]

pub returns : goal.returns
returns t c = below_end _ _ _ _ _ _ _ c.child_count-n.ensures c.loop-k.invariant c.loop-k-test.false
