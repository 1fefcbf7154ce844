use Rattle.std.proofs.Common.{ℕ, ap, ◌∙◌, rules}
use Rattle.std.proofs.Common.{false, true, ◌++◌}
use Rattle.texts.specs.Number.{decimal_text, fixed_text, minus}
use Rattle.texts.specs.Valued.{value}
use Rattle.texts.specs.Wide.{signed128}
use Rattle.texts.specs.Held.{held}
use Rattle.texts.proofs.Signs.{decimal_plus, decimal_minus}
use Rattle.texts.proofs.number.decimal_text.Goals as goal

pub returns-then-w-lt9223372036854775808 : goal.returns-then-w-lt9223372036854775808
returns-then-w-lt9223372036854775808 c =
    let v = signed128 (value c.args.w) in
    c.fixed_text.ensures ∙ ap held (ap (λ (n : ℕ). minus false ++ fixed_text n c.scale_of-places.result) c.bits.ensures ∙ decimal_plus _ _ _ (search rules) c.if-w-lt9223372036854775808.true ∙ ap (λ (k : ℕ). decimal_text v k) c.scale_of-places.ensures)

pub returns : goal.returns
returns c =
    let v = signed128 (value c.args.w) in
    c.fixed_text-2.ensures
    ∙ ap held (ap (λ (n : ℕ). minus true ++ fixed_text n c.scale_of-places.result) c.bits-2.ensures ∙ decimal_minus _ _ _ _ (search rules) (search rules) c.if-w-lt9223372036854775808.false c.negated.ensures ∙ ap (λ (k : ℕ). decimal_text v k) c.scale_of-places.ensures)
