use Prim.Native.Nat.{ℕ, ◌+◌, ◌-◌, ◌<◌}
use mathlib.Core.Path.{sym, ap, ◌∙◌}
use mathlib.Core.List.{[]}
use native.Mathlib.Omega.{arith}
use lib.ListN.{length}
use Rattle.lent.specs.Fit.{cap}
use Rattle.plan.specs.Answers.{item_of}
use Rattle.nest.specs.Job.{outline_by}
use Rattle.nest.proofs.Small.{order_small}
use Rattle.walk.specs.Contexts.{context_by}
use Rattle.walk.specs.Tour.{segments_in}
use Rattle.walk.proofs.TourLaws.{steps_of}
use Rattle.emit.proofs.Did.{Fit}
use Rattle.emit.proofs.DidLaws.{did_small, did_fit}
use Rattle.instances.proofs.Cursors.{came_in, sound_in}
use Rattle.plan.proofs.PlannedLaws.{order_stands}
use Rattle.run.proofs.Along.{far_small}
use Rattle.run.proofs.Walking.{items_within, instance_within, instance_took, within, items_none, items_end, segment_within, segment_written, segment_next, loop_within, loop_written, loop_count, loop_next, visits_none, visits_low, visits_within, visits_end, instance_fits, fewer, sum_fits, visits_next, few_instances, few_children}
use Rattle.run.proofs.+items_visits.Goals as goal
use Rattle.run.proofs.+items_visits.Goals.{items-in-Segment, items-in-Loop, items-Start, visits-Start, visits-After-context_in-d}

-- ---- items

items-fit : (t : ℕ) (c : items-Start t) → Fit c.args.doc.now c.args.segments.now c.args.findings.now c.args.stops.now
items-fit t c = record { document = omega arith; segments = omega arith; findings = omega arith; stops = omega arith }

pub items-loop-k-init : goal.items-loop-k-init
items-loop-k-init t c = record { in_order = omega arith; along = items_none _ _ _ _ c.requires.0.small }

pub items-order_item-it-requires : goal.items-order_item-it-requires
items-order_item-it-requires t c = order_stands c.order-order.ensures c.loop-k-test.true

pub items-write_planned-written-requires : goal.items-write_planned-written-requires
items-write_planned-written-requires t c =
    let w = c.requires.0 in
    let order = c.order-order.ensures in
    let a = c.loop-k.invariant.along in
    let b = c.loop-k-test.true in
    (record { small = far_small a.far; sound = w.sound; loop = w.loop }, segment_within _ _ _ _ _ _ order.count a c.order_item-it.result b (c.order_item-it.ensures _ order b) _ c.in-Segment.is c.requires.1)

pub items-overflow_add-written : goal.items-overflow_add-written
items-overflow_add-written t c =
    let order = c.order-order.ensures in
    let b = c.loop-k-test.true in
    let r : c.loop-k.written + c.write_planned-written.result < cap = segment_written _ _ _ _ _ _ order.count c.loop-k.invariant.along c.order_item-it.result b (c.order_item-it.ensures _ order b) _ c.in-Segment.is c.write_planned-written.ensures c.requires.1 in
    omega arith

pub items-visits-v-requires : goal.items-visits-v-requires
items-visits-v-requires t c =
    let w = c.requires.0 in
    let order = c.order-order.ensures in
    let a = c.loop-k.invariant.along in
    let b = c.loop-k-test.true in
    let y = c.order_item-it.ensures _ order b in
    let below = order_small _ c.args.nest.nested.ready.passed _ _ _ _ order.count b (sym (ap item_of c.in-Loop.is) ∙ y) in
    let room = loop_within _ _ _ _ _ _ order.count a c.order_item-it.result b y _ c.in-Loop.is c.requires.1 in
    (omega (arith, (goal.at.items-visits-v-requires t c).Start), (record { small = far_small a.far; sound = w.sound; loop = below }, room))

pub items-overflow_add-written-in-Loop : goal.items-overflow_add-written-in-Loop
items-overflow_add-written-in-Loop t c =
    let order = c.order-order.ensures in
    let b = c.loop-k-test.true in
    let r : c.loop-k.written + c.visits-v.result.written < cap = loop_written _ _ _ _ _ _ order.count c.loop-k.invariant.along c.order_item-it.result b (c.order_item-it.ensures _ order b) _ c.in-Loop.is c.visits-v.ensures c.requires.1 in
    omega arith

pub items-overflow_add-n : goal.items-overflow_add-n
items-overflow_add-n t c =
    let order = c.order-order.ensures in
    let b = c.loop-k-test.true in
    let r = loop_count _ _ _ _ _ _ order.count c.loop-k.invariant.along c.order_item-it.result b (c.order_item-it.ensures _ order b) _ c.in-Loop.is c.visits-v.ensures in
    omega (arith, r, few_children c.args.nest.nested.ready.passed c.args.height c.args.l.0 (context_by c.args.c), order.count)

pub items-loop-k-preserved : goal.items-loop-k-preserved
items-loop-k-preserved t c =
    let order = c.order-order.ensures in
    let a = c.loop-k.invariant.along in
    let b = c.loop-k-test.true in
    let y = c.order_item-it.ensures _ order b in
    let fit = items-fit t (goal.at.items-loop-k-preserved t c).Start in
    record {
      in_order = omega arith;
      along = elim c.match-it.branch [
        | items-in-Segment w ↦
            rw (w.doc-is, w.segments-is, w.findings-is, w.stops-is, w.s-is, w.written-is, w.n-is) (segment_next _ _ _ _ _ _ order.count a c.order_item-it.result b y _ w.in-Segment.is w.write_planned-written.ensures fit)
        | items-in-Loop w ↦
            rw (w.doc-is, w.segments-is, w.findings-is, w.stops-is, w.s-is, w.written-is, w.n-is) (loop_next _ _ _ _ _ _ order.count a c.order_item-it.result b y _ w.in-Loop.is w.visits-v.ensures fit)
      ];
    }

pub items-returns : goal.items-returns
items-returns t c = items_end _ _ _ _ _ _ c.order-order.ensures.count c.loop-k.invariant.along c.loop-k-test.false

-- ---- visits

visits-fit : (t : ℕ) (c : visits-Start t) → Fit c.args.doc.now c.args.segments.now c.args.findings.now c.args.stops.now
visits-fit t c = record { document = omega arith; segments = omega arith; findings = omega arith; stops = omega arith }

-- the segments of the instance are within the bound
visits-room : (t : ℕ) (c : visits-After-context_in-d t) → segments_in (steps_of (outline_by c.args.nest.job) (c.args.height - 1) c.args.l.0 (context_by c.context_in-d.result)) < cap
visits-room t c =
    let came = came_in c.next_instance.ensures c.in-Some.is c.context_in-d.ensures in
    let there = c.instances-cur.ensures.0 in
    instance_fits _ _ _ _ _ there _ _ _ came c.loop-next.invariant.along (visits_within _ _ _ _ _ there c.if-height-eq0.false c.requires.1)

pub visits-returns-then-height-eq0 : goal.visits-returns-then-height-eq0
visits-returns-then-height-eq0 t c = visits_low _ _ _ _ c.if-height-eq0.true c.requires.0.small

pub visits-loop-next-init : goal.visits-loop-next-init
visits-loop-next-init t c = record { along = visits_none _ _ _ _ _ c.instances-cur.ensures.0 c.requires.0.small; going = c.instances-cur.ensures.1 }

pub visits-enter_own-requires : goal.visits-enter_own-requires
visits-enter_own-requires t c =
    record { small = far_small c.loop-next.invariant.along.far; sound = sound_in c.next_instance.ensures c.in-Some.is c.context_in-d.ensures; loop = c.requires.0.loop }

pub visits-items-v-requires : goal.visits-items-v-requires
visits-items-v-requires t c =
    let w = c.requires.0 in
    let stopped = c.enter_own.ensures [] [] in (
      omega (arith, (goal.at.visits-items-v-requires t c).Start, c.if-height-eq0.false),
      (
        record { small = did_small stopped; sound = sound_in c.next_instance.ensures c.in-Some.is c.context_in-d.ensures; loop = w.loop },
        items_within _ _ _ _ (visits-room t (goal.at.visits-items-v-requires t c).After-context_in-d),
      ),
    )

pub visits-close-closed-requires : goal.visits-close-closed-requires
visits-close-closed-requires t c =
    (did_small c.items-v.ensures.took.did, c.requires.0.loop, within _ c.items-v.ensures.took.written (items_within _ _ _ _ (visits-room t (goal.at.visits-close-closed-requires t c).After-context_in-d)))

pub visits-overflow_add-written : goal.visits-overflow_add-written
visits-overflow_add-written t c =
    let r = instance_within _ _ _ _ c.items-v.ensures c.close-closed.ensures (visits-room t (goal.at.visits-overflow_add-written t c).After-context_in-d) in
    omega (arith, r)

pub visits-overflow_add-written-in-Some : goal.visits-overflow_add-written-in-Some
visits-overflow_add-written-in-Some t c =
    let came = came_in c.next_instance.ensures c.in-Some.is c.context_in-d.ensures in
    let there = c.instances-cur.ensures.0 in
    let a = c.loop-next.invariant.along in
    let fit = visits-fit t (goal.at.visits-overflow_add-written-in-Some t c).Start in
    let took = instance_took _ _ _ _ c.items-v.ensures c.close-closed.ensures (did_fit fit a.far.did) (c.enter_own.ensures c.loop-next.doc c.loop-next.segments) in
    let r = sum_fits _ _ _ _ _ there _ _ _ came a took (visits_within _ _ _ _ _ there c.if-height-eq0.false c.requires.1) in
    omega (arith, r)

pub visits-overflow_add-n : goal.visits-overflow_add-n
visits-overflow_add-n t c =
    let came = came_in c.next_instance.ensures c.in-Some.is c.context_in-d.ensures in
    let there = c.instances-cur.ensures.0 in
    omega (arith, fewer _ _ _ _ _ there _ _ _ came c.loop-next.invariant.along, ap length there, few_instances c.args.nest.nested.ready.passed c.args.height c.args.l.0 (context_by c.args.c))

pub visits-loop-next-preserved : goal.visits-loop-next-preserved
visits-loop-next-preserved t c =
    let came = came_in c.next_instance.ensures c.in-Some.is c.context_in-d.ensures in
    let there = c.instances-cur.ensures.0 in
    let a = c.loop-next.invariant.along in
    let fit = visits-fit t (goal.at.visits-loop-next-preserved t c).Start in
    let took = instance_took _ _ _ _ c.items-v.ensures c.close-closed.ensures (did_fit fit a.far.did) (c.enter_own.ensures c.loop-next.doc c.loop-next.segments) in
    rw c.behind-cur.ensures (record { along = visits_next _ _ _ _ _ there _ _ _ came a took fit; going = (c.next_instance.ensures.given _ c.in-Some.is).still })

pub visits-returns : goal.visits-returns
visits-returns t c = visits_end _ _ _ _ _ c.instances-cur.ensures.0 c.if-height-eq0.false _ (c.next_instance.ensures.ended c.in_default.is) c.loop-next.invariant.along
