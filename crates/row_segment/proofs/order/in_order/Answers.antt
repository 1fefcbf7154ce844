use Prim.Native.Nat.{◌+◌}
use mathlib.Core.Path.{refl, ap}
use Rattle.row_segment.proofs.StreamLaws.{part_by}
use Rattle.row_segment.proofs.OrderLaws.{ordering_start, ordering_part, ordering_none, ordering_end, stands_here, stands_next, puts_some, puts_none}
use Rattle.row_segment.proofs.order.in_order.Goals as goal
use Rattle.row_segment.proofs.order.in_order.Goals.{in-Some+else-not-behind, in_default}

pub loop-k-init : goal.loop-k-init
loop-k-init c = ordering_start _ _ c.requires

pub element_at-e-requires : goal.element_at-e-requires
element_at-e-requires c = stands_here c.args.job.ready.plan _ c.requires _ _ c.loop-k.invariant.stands c.loop-k-test.true

pub loop-k-preserved : goal.loop-k-preserved
loop-k-preserved c = let w = c.requires in
    let r = c.args.job.ready.plan in
    let i = c.loop-k.invariant in
    let h = c.loop-k-test.true in
    let e = c.element_at-e.result in
    let f = c.element_at-e.ensures in
    let s = c.seen.ensures in
    let n = stands_next r _ w _ _ i.stands h e f _ s in
    elim c.match-seen.branch [
      | in-Some+else-not-behind v ↦ rw (v.at-is, v.from-is) (ordering_part i n _ (puts_some r _ w _ _ i.stands h e f _ s v.in-Some.is) refl (ap (λ n. n + 1) v.component_of-c.ensures)
          (v.behind.ensures (part_by c.args.job.at.bytes.now c.args.x v.in-Some.part) v.if-not-behind.false refl v.component_of-c.ensures))
      | in_default v ↦ rw (v.at-is, v.from-is) (ordering_none i n (puts_none r _ w _ _ i.stands h e f _ s v.in_default.is))
    ]

pub returns : goal.returns
returns c = λ t. ordering_end c.requires c.loop-k.invariant c.loop-k-test.false
