use Prim.Native.Nat.{◌≤◌}
use native.Mathlib.Omega.{arith}
use lib.ListN.{length}
use Rattle.lent.proofs.Fit.{wide}
use Rattle.row_segment.proofs.OrderLaws.{feeding_start, feeding_few, feeding_part, feeding_none, feeding_end, stands_here, stands_next, puts_some, puts_none}
use Rattle.row_segment.proofs.order.put_parts.Goals as goal
use Rattle.row_segment.proofs.order.put_parts.Goals.{in-Some, in_default}
use Rattle.row_segment.proofs.order.put_parts.Goals.{Start}

pub loop-k-init : goal.loop-k-init
loop-k-init c = feeding_start _ _ _ _ _ _ _ c.requires.0 c.requires.2

pub element_at-e-requires : goal.element_at-e-requires
element_at-e-requires c = stands_here c.args.job.ready.plan _ c.requires.0 _ _ c.loop-k.invariant.stands c.loop-k-test.true

pub put_part-g-requires : goal.put_part-g-requires
put_part-g-requires c = (c.requires.0, c.requires.1, feeding_few c.loop-k.invariant c.requires.0 (omega (arith, (goal.at.put_part-g-requires c).Start)))

pub loop-k-preserved : goal.loop-k-preserved
loop-k-preserved c = let w = c.requires.0 in
    let r = c.args.job.ready.plan in
    let i = c.loop-k.invariant in
    let h = c.loop-k-test.true in
    let e = c.element_at-e.result in
    let f = c.element_at-e.ensures in
    let s = c.seen.ensures in
    let n = stands_next r _ w _ _ i.stands h e f _ s in
    let z : length c.args.findings.now ≤ wide = omega (arith, (goal.at.loop-k-preserved c).Start) in
    elim c.match-seen.branch [
      | in-Some v ↦ rw (v.doc-is, v.findings-is, v.at-is, v.elements-is, v.components-is, v.f-is, v.n-is)
          (feeding_part i _ v.put_part-g.result n z (puts_some r _ w _ _ i.stands h e f _ s v.in-Some.is) v.put_part-g.ensures)
      | in_default v ↦ rw (v.doc-is, v.findings-is, v.at-is, v.elements-is, v.components-is, v.f-is, v.n-is)
          (feeding_none i n (puts_none r _ w _ _ i.stands h e f _ s v.in_default.is))
    ]

pub returns : goal.returns
returns c = feeding_end c.loop-k.invariant c.requires.0 c.loop-k-test.false
