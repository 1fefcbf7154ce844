use Rattle.std.proofs.Common.{sym, ◌∙◌}
use Rattle.texts.proofs.Rendered.{none_says, says_as, Told, told, far, years_short, years_long, years_far}
use Rattle.texts.proofs.render.date_by.Goals as goal
use Rattle.texts.proofs.render.date_by.Goals.{In_ok-date}

-- the day's date
day : (c : In_ok-date) → let x = c.in_ok-date.date in Told c.args.days x.year x.month x.day
day c = told _ _ c.ranges.days (sym c.civil_from_days.ensures ∙ c.in_ok-date.ensures.ok_part)

pub returns-in_err-date : goal.returns-in_err-date
returns-in_err-date c =
    let none = c.in_err-date.ensures.ok_part in
    none_says _ c.from_residual.ensures.1 c.in_err-date.ensures.value none (years_far _ _ _ _ _ (far _ c.ranges.days (sym c.civil_from_days.ensures ∙ none)))

pub short_date-requires : goal.short_date-requires
short_date-requires c = let t = day (goal.at.short_date-requires c).In_ok-date in (t.month, t.day)

pub returns-then-is_below : goal.returns-then-is_below
returns-then-is_below c = says_as c.short_date.ensures (years_short _ _ _ _ (day (goal.at.returns-then-is_below c).In_ok-date) (sym c.is_below.ensures ∙ c.if-is_below.true))

pub long_date-requires : goal.long_date-requires
long_date-requires c = let t = day (goal.at.long_date-requires c).In_ok-date in (t.month, t.day)

pub returns : goal.returns
returns c = says_as c.long_date.ensures (years_long _ _ _ _ (day (goal.at.returns c).In_ok-date) (sym c.is_below.ensures ∙ c.if-is_below.false))
