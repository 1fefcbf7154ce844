use Prim.Native.Nat.{◌+◌, ◌<◌}
use Rattle.codec.proofs.Ways.{count_short, count_is}
use mathlib.Core.Path.{sym, ◌∙◌}
use native.Mathlib.Omega.{arith}
use Rattle.codec.proofs.section.Section.count_at.Goals as goal
use Rattle.codec.proofs.section.Section.count_at.Goals.{then-e-at-via-then-e-at, then-e-at-via-else-e-at+then-e-at-2}

pub returns-then-e-at : goal.returns-then-e-at
returns-then-e-at c =
    let short : c.args.self.end < c.args.at + 4 = elim c.then-e-at.branch [
      | then-e-at-via-then-e-at w ↦ omega (arith, w.if-e-at.true)
      | then-e-at-via-else-e-at+then-e-at-2 w ↦ w.if-e-at-2.true
    ] in (sym (count_short _ _ _ short), omega arith)

pub returns : goal.returns
returns c = (c.num_in.ensures.0 ∙ sym (count_is _ _ _ (omega arith)), c.num_in.ensures.1)
