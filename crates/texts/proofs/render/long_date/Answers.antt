use Rattle.std.proofs.Common.{sym, ◌∙◌, arith, rules}
use Rattle.texts.proofs.Ranges.{Inside, ranged_is, ranged_out}
use Rattle.texts.proofs.Rendered.{text_says, none_says, long_is, long_out}
use Rattle.texts.proofs.render.long_date.Goals as goal
use Rattle.texts.proofs.render.long_date.Goals.{In_ok-y}

-- the year has four digits
year : (c : In_ok-y) → Inside 1 9999 c.args.d.year c.in_ok-y.y
year c = ranged_is _ _ _ (record { sfits = search rules }) _ (sym c.in_range.ensures ∙ c.in_ok-y.ensures.ok_part)

pub returns-in_err-y : goal.returns-in_err-y
returns-in_err-y c =
    let none = c.in_err-y.ensures.ok_part in
    none_says _ c.from_residual.ensures.1 c.in_err-y.ensures.value none (long_out _ (ranged_out _ _ c.args.d.year (record { sfits = search rules }) (sym c.in_range.ensures ∙ none)))

pub eight-requires : goal.eight-requires
eight-requires c = (omega (arith, (year (goal.at.eight-requires c).In_ok-y).to), omega arith, c.requires.0, c.requires.1)

pub returns : goal.returns
returns c = text_says _ _ _ c.eight.ensures (long_is _ _ _ _ (year (goal.at.returns c).In_ok-y))
