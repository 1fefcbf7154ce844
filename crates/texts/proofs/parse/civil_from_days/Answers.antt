use Rattle.std.proofs.Common.{nat_abs, ap, ◌∙◌, to_z-of_z, w32, rules}
use Rattle.texts.proofs.Shift.{beyond, euclid_div, euclid_rem, civil_done}
use Rattle.texts.proofs.parse.civil_from_days.Goals as goal

pub returns-in_err-shifted : goal.returns-in_err-shifted
returns-in_err-shifted c = c.from_residual.ensures ∙ beyond _ c.ranges.days c.in_err-shifted.ensures

pub returns : goal.returns
returns c =
    let s = c.in_ok-shifted.ensures in
    let r = c.rem_euclid.ensures.value ∙ euclid_rem _ 146097 in
    civil_done _ _ _ _ _ _ _ c.ranges.days s.0 s.1 (c.div_euclid-era.ensures ∙ euclid_div _ 146097)
    (ap nat_abs (to_z-of_z {w = w32} (record { sfits = c.rem_euclid.type_inv }) ∙ r)) c.era_day-date.ensures.0
    (record { sfits = c.div_euclid-era.type_inv }) (search rules) (search rules) (search rules)
