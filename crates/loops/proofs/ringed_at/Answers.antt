use Rattle.std.specs.Prelude.{◌-◌, ◌+◌, ◌≡◌}
use native.Mathlib.Omega.{arith}
use Rattle.loops.proofs.Tangle.{ring_start, ring_again, ring_out, ring_stays}
use Rattle.loops.proofs.ringed_at.Goals as goal

pub loop-k-init : goal.loop-k-init
loop-k-init c = let z : c.count_at-n.result - 0 ≡ c.count_at-n.result = omega arith in rw z (ring_start _ _ _ _ _ c.count_at-n.ensures.0)

pub returns-in-None : goal.returns-in-None
returns-in-None c = ring_out _ _ _ _ _ _ _ c.loop-k.invariant (omega arith) c.parent.ensures.says c.in-None.is

pub loop-k-preserved : goal.loop-k-preserved
loop-k-preserved c =
    let z : c.count_at-n.result - (c.loop-k._k + 1) ≡ c.count_at-n.result - c.loop-k._k - 1 = omega arith in
    rw z (ring_again _ _ _ _ _ _ _ _ c.loop-k.invariant (omega arith) c.parent.ensures.says c.in-Some.is)

pub returns : goal.returns
returns c = ring_stays _ _ _ _ _ _ c.loop-k.invariant (omega arith)
