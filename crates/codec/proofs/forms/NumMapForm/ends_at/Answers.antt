use Rattle.std.specs.Prelude.{◌≡◌, ◌+◌, ◌-◌}
use native.Mathlib.Omega.{arith}
use Rattle.codec.proofs.Maps.{map_start, map_again, map_fallen, map_broken, map_done}
use Rattle.codec.proofs.Skip.{skip_pair}
use Rattle.codec.proofs.forms.NumMapForm.ends_at.Goals as goal

pub loop-i-init : goal.loop-i-init
loop-i-init g c = let z : c.count_at-n.result - 0 ≡ c.count_at-n.result = omega arith in rw z (map_start _ _ _ _ _ _ c.count_at-n.ensures.0 c.le_at-p.ensures)

pub returns-then-s-p : goal.returns-then-s-p
returns-then-s-p g c = cc (map_broken _ _ _ _ _ _ _ c.loop-i.invariant (omega arith) c.if-s-p.true)

pub returns-then-key-low : goal.returns-then-key-low
returns-then-key-low g c = cc (map_fallen _ _ _ _ _ _ _ _ c.loop-i.invariant (omega arith) c.count_at-key.ensures.0 c.if-key-low.true)

pub loop-i-preserved : goal.loop-i-preserved
loop-i-preserved g c =
    let z : c.count_at-n.result - (c.loop-i._i + 1) ≡ c.count_at-n.result - c.loop-i._i - 1 = omega arith in
    rw z (map_again _ _ _ _ _ _ _ _ _ c.loop-i.invariant (omega arith) c.count_at-key.ensures.0 c.if-key-low.false (cc (skip_pair _ _ _ _ _)))

pub returns : goal.returns
returns g c = map_done _ _ _ _ _ _ _ c.loop-i.invariant (omega arith)
