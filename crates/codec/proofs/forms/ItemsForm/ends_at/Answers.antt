use Rattle.std.specs.Prelude.{◌≡◌, ◌+◌, ◌-◌}
use native.Mathlib.Omega.{arith}
use Rattle.codec.proofs.Skip.{list_start, list_again, list_broken, list_done}
use Rattle.codec.proofs.forms.ItemsForm.ends_at.Goals as goal

pub loop-i-init : goal.loop-i-init
loop-i-init g c = let z : c.count_at-n.result - 0 ≡ c.count_at-n.result = omega arith in rw z (list_start _ _ _ _ _ _ c.count_at-n.ensures.0 c.le_at-p.ensures)

pub returns-then-s-p : goal.returns-then-s-p
returns-then-s-p g c = cc (list_broken _ _ _ _ _ _ c.loop-i.invariant (omega arith) c.if-s-p.true)

pub loop-i-preserved : goal.loop-i-preserved
loop-i-preserved g c =
    let z : c.count_at-n.result - (c.loop-i._i + 1) ≡ c.count_at-n.result - c.loop-i._i - 1 = omega arith in
    rw z (list_again _ _ _ _ _ _ _ c.loop-i.invariant (omega arith) c.ends_at-p.ensures)

pub returns : goal.returns
returns g c = list_done _ _ _ _ _ _ c.loop-i.invariant (omega arith)
