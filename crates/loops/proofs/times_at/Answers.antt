use Rattle.std.specs.Prelude.{◌-◌, ◌+◌, ◌≡◌}
use native.Mathlib.Omega.{arith}
use Rattle.loops.proofs.Tangle.{times_start, times_again, times_done, counted_again}
use Rattle.loops.proofs.times_at.Goals as goal

pub loop-i-init : goal.loop-i-init
loop-i-init c = let z : c.count_at-n.result - 0 ≡ c.count_at-n.result = omega arith in (omega arith, rw z (times_start _ _ _ _ _ _ c.count_at-n.ensures.0 c.le_at-p.ensures))

pub loop-i-preserved : goal.loop-i-preserved
loop-i-preserved c =
    let z : c.count_at-n.result - (c.loop-i._i + 1) ≡ c.count_at-n.result - c.loop-i._i - 1 = omega arith in
    (counted_again _ _ _ c.loop-i.invariant.0, rw z (times_again _ _ _ _ _ _ _ _ _ c.loop-i.invariant.1 (omega arith) c.le_at-p-in-loop-i.ensures c.same_at.ensures.says))

pub returns : goal.returns
returns c = times_done _ _ _ _ _ _ _ c.loop-i.invariant.1 (omega arith)
