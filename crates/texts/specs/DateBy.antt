-- Not to be believed: words of inner contracts, beside those of DateText, on which no contract of what users call rests.
use Rattle.std.specs.Prelude.{ℕ, ℤ}
use Rattle.texts.specs.Calendar.{civil_of, near}
use Rattle.texts.specs.Reason.{Width, Outcome, refuses, pick, shorter}
use Rattle.texts.specs.DateText.{long_date, short_date}

-- a date, in six digits of the years from low to high where the element holds fewer than eight; days too far on have none
unfoldable pub date_by : ℕ → ℕ → ℕ → ℤ → Width → Outcome
date_by low high reason d max =
    pick (near d) (pick (shorter max 8) (short_date low high reason (civil_of d)) (long_date (civil_of d))) (refuses 1)
