use Rattle.std.proofs.Common.{sym, ◌∙◌, rules}
use Rattle.texts.proofs.Ranges.{ranged_is, ranged_out}
use Rattle.texts.proofs.Rendered.{text_says, none_says, short_is, short_out}
use Rattle.texts.proofs.render.short_date.Goals as goal

pub returns-in_err-y : goal.returns-in_err-y
returns-in_err-y c =
    let none = c.in_err-y.ensures.ok_part in
    none_says _ c.from_residual.ensures.1 c.in_err-y.ensures.value none (short_out _ _ _ _ (ranged_out _ _ c.args.d.year (record { sfits = search rules }) (sym c.in_range.ensures ∙ none)))

-- the year is one of those that the digits are read as
pub returns : goal.returns
returns c = text_says _ _ _ c.six.ensures (short_is _ _ _ _ _ _ _ (ranged_is _ _ c.args.d.year (record { sfits = search rules }) _ (sym c.in_range.ensures ∙ c.in_ok-y.ensures.ok_part)))
