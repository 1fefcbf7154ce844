-- The edge values, of all definitions together, by computation (docs/RULES.md, "Edge values").
use Rattle.std.specs.Prelude.{◌≡◌, [], ◌∷◌, pos, neg_ℤ, codes, None, Some}
use Rattle.texts.specs.Reason.{gives, refuses}
use Rattle.texts.specs.DateText.{date_text}
use Rattle.texts.specs.Clock.{time_text}
use Rattle.texts.specs.Number.{decimal_text}
use Rattle.segment.specs.Examples.{comp, plain, svc}

pub record EdgeValues : Type 0 where
  -- days in eight figures: the first of 1970, the first of the year 1, and a day before it, which has no text
  pub day_0 : date_text (pos 0) (Some 8) ≡ gives (codes "19700101")
  pub year_1 : date_text (neg_ℤ (pos 719162)) (Some 8) ≡ gives (codes "00010101")
  pub year_0 : date_text (neg_ℤ (pos 719163)) (Some 8) ≡ refuses 1
  -- in six figures: the first and the last day of the hundred years from 1950, and a day before them
  pub first_of_1950 : date_text (neg_ℤ (pos 7305)) (Some 6) ≡ gives (codes "500101")
  pub last_of_2049 : date_text (pos 29219) (Some 6) ≡ gives (codes "491231")
  pub last_of_1949 : date_text (neg_ℤ (pos 7306)) (Some 6) ≡ refuses 2
  -- seconds: six figures where there are some, for which four are too few; a day has 86,400, counted from 0
  pub after_one : time_text (pos 3661) None ≡ gives (codes "010101")
  pub too_short : time_text (pos 3661) (Some 4) ≡ refuses 4
  pub next_day : time_text (pos 86400) None ≡ refuses 3
  pub day_before : time_text (neg_ℤ (pos 1)) None ≡ refuses 3
  -- decimals of scale 2: no trailing zeros, a zero before the point, and no point where nothing stands behind it
  pub minus_1_5 : decimal_text (neg_ℤ (pos 150)) 2 ≡ codes "-1.5"
  pub five_cents : decimal_text (pos 5) 2 ≡ codes "0.05"
  pub nothing : decimal_text (pos 0) 2 ≡ codes "0"
  -- an SVC with the components HC, empty and X, and one whose parts are all empty
  pub composite : svc (comp 1 1 "HC" ∷ comp 1 2 "" ∷ comp 1 3 "X" ∷ []) ≡ codes "SVC*HC::X~"
  pub all_empty : svc (comp 1 1 "" ∷ comp 1 2 "" ∷ plain 2 "" ∷ []) ≡ codes "SVC~"
