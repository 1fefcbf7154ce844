use Prim.Native.Nat.{◌+◌, ◌<◌}
use Rattle.codec.proofs.Skip.{skip_le, skip_short}
use mathlib.Core.Path.{sym}
use native.Mathlib.Omega.{arith}
use Rattle.codec.proofs.le_at.Goals as goal
use Rattle.codec.proofs.le_at.Goals.{then-e-at-via-then-e-at, then-e-at-via-else-e-at+then-e-at-2}

pub returns-then-e-at : goal.returns-then-e-at
returns-then-e-at c =
    let short : c.args.end < c.args.at + c.args.w = elim c.then-e-at.branch [
      | then-e-at-via-then-e-at w ↦ omega (arith, w.if-e-at.true)
      | then-e-at-via-else-e-at+then-e-at-2 w ↦ w.if-e-at-2.true
    ] in sym (skip_short _ _ _ _ short)

pub returns : goal.returns
returns c = sym (skip_le _ _ _ _ c.if-e-at-2.false)
