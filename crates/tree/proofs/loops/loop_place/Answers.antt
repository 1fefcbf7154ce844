use Rattle.std.specs.Prelude.{◌-◌, ◌+◌, ◌≡◌}
use native.Mathlib.Omega.{arith}
use Rattle.codec.proofs.Skip.{list_again, list_done}
use Rattle.tree.proofs.loops.loop_place.Goals as goal

pub loop-k-preserved : goal.loop-k-preserved
loop-k-preserved c = let z : c.args.i - (c.loop-k._k + 1) ≡ c.args.i - c.loop-k._k - 1 = omega arith in rw z (list_again _ _ _ _ _ _ _ c.loop-k.invariant (omega arith) c.ends_at-p.ensures)

pub returns : goal.returns
returns c = list_done _ _ _ _ _ _ c.loop-k.invariant (omega arith)
