use native.Mathlib.Omega.{arith}
use Rattle.emit.proofs.Did.{Fit}
use Rattle.run.proofs.Along.{far_small}
use Rattle.run.proofs.Touring.{walks_root, tour_none, tour_end, root_within, tour_next}
use Rattle.run.proofs.run.Goals as goal
use Rattle.run.proofs.run.Goals.{Start}

fit : (c : Start) → Fit c.args.doc.now c.args.segments.now c.args.findings.now c.args.stops.now
fit c = record { document = omega arith; segments = omega arith; findings = omega arith; stops = omega arith }

pub loop-k-init : goal.loop-k-init
loop-k-init c = record { in_roots = omega arith; far = tour_none _ _ c.requires.0 }

pub visits-requires : goal.visits-requires
visits-requires c =
    let a = c.loop-k.invariant.far in (
      walks_root _ _ _ c.outside-c.ensures c.args.nest.nested.ready.passed (far_small a) (rw (← c.root_count-count.ensures) c.loop-k-test.true) c.root-l.ensures,
      root_within _ _ _ _ c.root_count-count.ensures a _ _ c.loop-k-test.true c.root-l.ensures c.outside-c.ensures c.loop_count-height.ensures c.requires.1,
    )

pub loop-k-preserved : goal.loop-k-preserved
loop-k-preserved c = record {
  in_roots = omega arith;
  far = tour_next _ _ _ _ c.root_count-count.ensures c.loop-k.invariant.far _ _ c.loop-k-test.true c.root-l.ensures c.outside-c.ensures c.visits.ensures (fit (goal.at.loop-k-preserved c).Start);
}

pub returns : goal.returns
returns c = tour_end _ _ _ _ c.root_count-count.ensures c.loop-k.invariant.far c.loop_count-height.ensures c.loop-k-test.false
