use Rattle.std.proofs.Common.{sym, ◌∙◌}
use Rattle.texts.proofs.Ranges.{Inside, ranged_is, ranged_out}
use Rattle.texts.proofs.Rendered.{text_says, why_says, none_says, four_fits, six_fits, time_out, time_even, time_full, time_odd}
use Rattle.texts.proofs.render.time_text.Goals as goal
use Rattle.texts.proofs.render.time_text.Goals.{In_ok-n}

-- the seconds lie within one day
seconds : (c : In_ok-n) → Inside 0 86399 c.args.seconds c.in_ok-n.n
seconds c = ranged_is _ _ _ c.ranges.seconds _ (sym c.in_range.ensures ∙ c.in_ok-n.ensures.ok_part)

pub returns-in_err-n : goal.returns-in_err-n
returns-in_err-n c =
    let none = c.in_err-n.ensures.ok_part in
    none_says _ c.from_residual.ensures.1 c.in_err-n.ensures.value none (time_out _ _ (ranged_out _ _ _ c.ranges.seconds (sym c.in_range.ensures ∙ none)))

pub four-requires : goal.four-requires
four-requires c = four_fits _ (seconds (goal.at.four-requires c).In_ok-n).to

pub six-requires : goal.six-requires
six-requires c = six_fits _ (seconds (goal.at.six-requires c).In_ok-n).to

pub returns-then-n-eq0 : goal.returns-then-n-eq0
returns-then-n-eq0 c = text_says _ _ _ c.four.ensures (time_even _ (seconds (goal.at.returns-then-n-eq0 c).In_ok-n) c.if-n-eq0.true)

pub returns-then-is_below : goal.returns-then-is_below
returns-then-is_below c = why_says _ _ (time_full _ (seconds (goal.at.returns-then-is_below c).In_ok-n) c.if-n-eq0.false (sym c.is_below.ensures ∙ c.if-is_below.true))

pub returns : goal.returns
returns c = text_says _ _ _ c.six.ensures (time_odd _ (seconds (goal.at.returns c).In_ok-n) c.if-n-eq0.false (sym c.is_below.ensures ∙ c.if-is_below.false))
