use Prim.Native.Nat.{◌+◌, ◌<◌}
use Rattle.codec.specs.Codec.{le_c}
use Rattle.codec.proofs.Skip.{skip_le, skip_short}
use Rattle.codec.proofs.Ways.{count_is, list_past, les_short, les_fit}
use mathlib.Core.Path.{sym, ◌∙◌}
use native.Mathlib.Omega.{arith}
use Rattle.codec.proofs.section.Section.les_at.Goals as goal
use Rattle.codec.proofs.section.Section.les_at.Goals.{then-e-at-via-then-e-at, then-e-at-via-else-e-at+then-e-at-2}

pub returns-then-e-at : goal.returns-then-e-at
returns-then-e-at c =
    let short : c.args.self.end < c.args.at + 4 = elim c.then-e-at.branch [
      | then-e-at-via-then-e-at w ↦ omega (arith, w.if-e-at.true)
      | then-e-at-via-else-e-at+then-e-at-2 w ↦ w.if-e-at-2.true
    ] in sym (list_past _ _ _ (le_c c.args.w) (omega (arith, skip_short 4 c.args.self.bytes.now c.args.at c.args.self.end short)))

pub returns-then-e-p : goal.returns-then-e-p
returns-then-e-p c = sym (les_short _ _ _ _ _ _ (c.num_in.ensures.0 ∙ sym (count_is _ _ _ (omega arith))) (sym (skip_le 4 _ _ _ (omega arith))) (omega arith) (omega arith))

pub returns : goal.returns
returns c = sym (les_fit _ _ _ _ _ _ (c.num_in.ensures.0 ∙ sym (count_is _ _ _ (omega arith))) (sym (skip_le 4 _ _ _ (omega arith))) (omega arith) (omega arith))
