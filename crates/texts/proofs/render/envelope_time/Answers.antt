use Rattle.std.proofs.Common.{sym, ◌∙◌}
use Rattle.texts.proofs.Ranges.{Inside, ranged_is, ranged_out}
use Rattle.texts.proofs.Rendered.{text_says, none_says, four_fits, six_fits, envelope_out, envelope_even, envelope_cut, envelope_odd}
use Rattle.texts.proofs.render.envelope_time.Goals as goal
use Rattle.texts.proofs.render.envelope_time.Goals.{In_ok-n, then-n-eq0-via-then-n-eq0, then-n-eq0-via-else-n-eq0+then-is_below}

-- the seconds lie within one day
seconds : (c : In_ok-n) → Inside 0 86399 c.args.seconds c.in_ok-n.n
seconds c = ranged_is _ _ _ c.ranges.seconds _ (sym c.in_range.ensures ∙ c.in_ok-n.ensures.ok_part)

pub returns-in_err-n : goal.returns-in_err-n
returns-in_err-n c =
    let none = c.in_err-n.ensures.ok_part in
    none_says _ c.from_residual.ensures.1 c.in_err-n.ensures.value none (envelope_out _ _ (ranged_out _ _ _ c.ranges.seconds (sym c.in_range.ensures ∙ none)))

pub four-requires : goal.four-requires
four-requires c = four_fits _ (seconds (goal.at.four-requires c).In_ok-n).to

pub six-requires : goal.six-requires
six-requires c = six_fits _ (seconds (goal.at.six-requires c).In_ok-n).to

pub returns-then-n-eq0 : goal.returns-then-n-eq0
returns-then-n-eq0 c =
    let s = seconds (goal.at.returns-then-n-eq0 c).In_ok-n in
    text_says _ _ _ c.four.ensures (elim c.then-n-eq0.branch [
      | then-n-eq0-via-then-n-eq0 w ↦ envelope_even _ s w.if-n-eq0.true
      | then-n-eq0-via-else-n-eq0+then-is_below w ↦ envelope_cut _ s w.if-n-eq0.false (sym w.is_below.ensures ∙ w.if-is_below.true)
    ])

pub returns : goal.returns
returns c = text_says _ _ _ c.six.ensures (envelope_odd _ (seconds (goal.at.returns c).In_ok-n) c.if-n-eq0.false (sym c.is_below.ensures ∙ c.if-is_below.false))
