use Rattle.std.specs.Prelude.{◌≡◌, ◌+◌, ◌-◌}
use native.Mathlib.Omega.{arith}
use Rattle.codec.proofs.Skip.{list_again, list_done}
use Rattle.spec.proofs.read.string_at.Goals as goal

pub loop-i-preserved : goal.loop-i-preserved
loop-i-preserved c =
    let z : c.args.k - (c.loop-i._i + 1) ≡ c.args.k - c.loop-i._i - 1 = omega arith in
    rw z (list_again _ _ _ _ _ _ _ c.loop-i.invariant (omega arith) c.bytes_at-p.ensures)

pub returns : goal.returns
returns c = list_done _ _ _ _ _ _ c.loop-i.invariant (omega arith)
