use Rattle.std.proofs.Common.{◌∙◌, arith}
use Rattle.texts.proofs.Passes.{minus_short}
use Rattle.texts.proofs.Wholes.{digit_stored, digits_stored}
use Rattle.texts.proofs.number.whole_text.Goals as goal

pub loop-at-preserved : goal.loop-at-preserved
loop-at-preserved c = (omega arith, (omega arith, c.loop-at.invariant.1.1 ∙ digit_stored _ _ _ _ c.loop-at-test.true))

pub returns : goal.returns
returns c =
    let z = c.size_of in
    digits_stored c.sign-t.result _ _ _ _ _ _ c.sign-t.ensures.0 (minus_short c.args.negative) (omega (arith, z.ensures.0, z.ensures.1))
    (omega (arith, z.ensures.0)) c.loop-at-test.false c.loop-at.invariant.1.1
