use Rattle.std.proofs.Common.{ℤ, ◌+◌, ◌-◌, ◌≤◌, ap, sym, subst, ◌∙◌, arith, w32}
use Rattle.std.specs.Int.Signed.{mag}
use Rattle.std.proofs.Math.Facts.{to_z_pos}
use Rattle.texts.specs.Calendar.{day_of}
use Rattle.texts.proofs.Dates.{into_year, from_march_lem, from_january}
use Rattle.texts.proofs.Months.{month_of, day_in}
use Rattle.texts.proofs.Years.{common, year_of, year_small}
use Rattle.texts.proofs.parse.era_day.Goals as goal

pub returns-then-m-lt10 : goal.returns-then-m-lt10
unfolding year_of common into_year month_of day_in
returns-then-m-lt10 c =
    let e = c.args.e in
    let h = year_small e c.requires in
    let p = to_z_pos w32 {n = year_of e} (omega arith) in
    (ap (λ (z : ℤ). day_of z (month_of (into_year e) + 3) (day_in (into_year e))) p ∙ from_march_lem e c.requires c.if-m-lt10.true, subst (λ (z : ℤ). mag z ≤ 400) (sym p) (omega arith))

pub returns : goal.returns
unfolding year_of common into_year month_of day_in
returns c =
    let e = c.args.e in
    let h = year_small e c.requires in
    let p = to_z_pos w32 {n = year_of e + 1} (omega arith) in
    (ap (λ (z : ℤ). day_of z (month_of (into_year e) - 9) (day_in (into_year e))) p ∙ from_january e c.requires c.if-m-lt10.false, subst (λ (z : ℤ). mag z ≤ 400) (sym p) (omega arith))
