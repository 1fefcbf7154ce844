-- The edge values of days, seconds and decimals (docs/RULES.md, "Edge values"), one table, computed of the definitions.
use Rattle.std.proofs.Common.{◌≡◌, ℕ, zero, suc, ◌+◌, ◌/◌, ◌%◌, List, [], ◌∷◌, ◌++◌, ℤ, pos, negsuc, ◌+ℤ◌, refl, ap, ◌∙◌, Some, None}
use Rattle.texts.specs.Calendar.{Day, near}
use Rattle.texts.specs.Reason.{Width, Outcome, gives, refuses, pick}
use Rattle.texts.specs.DateText.{long_date, short_date, day_text, date_text}
use Rattle.texts.specs.Number.{figures, first_from, size, count_text, trimmed, fixed_text, decimal_text}
use Rattle.texts.specs.Clock.{clock, time_text}
use Rattle.texts.proofs.Years.{common, year_of, start}
use Rattle.texts.proofs.Months.{month_of, day_in, md_of}
use Rattle.texts.proofs.Eras.{era_date}
use Rattle.texts.proofs.Dates.{shifted_date, civil_shifted}

-- a row: a number of days or of seconds and the element's max, or a decimal and its scale, and what is to come of it
pub data Row : Type 0 where
  days : ℤ → Width → Outcome → Row
  seconds : ℤ → Width → Outcome → Row
  decimal : ℤ → ℕ → List ℕ → Row

-- the text of k digits
abbrev pub digits : ℕ → ℕ → List ℕ
digits zero n = []
digits (suc k) n = digits k (n / 10) ++ ((48 + n % 10) ∷ [])

abbrev pub table : List Row
table =
    days (pos 0) (Some 8) (gives (digits 8 19700101))
    ∷ days (negsuc 719161) (Some 8) (gives (digits 8 00010101))
    ∷ days (negsuc 719162) (Some 8) (refuses 1)
    ∷ days (negsuc 7304) (Some 6) (gives (digits 6 500101))
    ∷ days (negsuc 7305) (Some 6) (refuses 2)
    ∷ days (pos 29219) (Some 6) (gives (digits 6 491231))
    ∷ seconds (pos 3661) None (gives (digits 6 010101))
    ∷ seconds (pos 3661) (Some 4) (refuses 4)
    ∷ seconds (pos 86400) None (refuses 3)
    ∷ seconds (negsuc 0) None (refuses 3)
    ∷ decimal (negsuc 149) 2 (45 ∷ 49 ∷ 46 ∷ 53 ∷ [])
    ∷ decimal (pos 5) 2 (48 ∷ 46 ∷ 48 ∷ 53 ∷ [])
    ∷ decimal (pos 0) 2 (48 ∷ [])
    ∷ []

abbrev pub Right : List Row → Type 0
Right [] = Unit
Right (days d max o ∷ rows) = (date_text d max ≡ o) × Right rows
Right (seconds s max o ∷ rows) = (time_text s max ≡ o) × Right rows
Right (decimal z scale t ∷ rows) = (decimal_text z scale ≡ t) × Right rows

-- the date by division, which antt computes in a moment
abbrev divided : ℤ → Width → Outcome
divided d max = pick (near d) (day_text (shifted_date (d +ℤ pos 719468)) max) (refuses 1)

abbrev Computed : List Row → Type 0
Computed [] = Unit
Computed (days d max o ∷ rows) = (divided d max ≡ o) × Computed rows
Computed (seconds s max o ∷ rows) = (time_text s max ≡ o) × Computed rows
Computed (decimal z scale t ∷ rows) = (decimal_text z scale ≡ t) × Computed rows

by_division : (d : ℤ) (max : Width) → date_text d max ≡ divided d max
unfolding date_text
by_division d max = ap (λ (t : Day). pick (near d) (day_text t max) (refuses 1)) (civil_shifted d)

computed : (rows : List Row) → Computed rows → Right rows
computed [] h = tt
computed (days d max o ∷ rows) h = (by_division d max ∙ h.0, computed rows h.1)
computed (seconds s max o ∷ rows) h = (h.0, computed rows h.1)
computed (decimal z scale t ∷ rows) h = (h.0, computed rows h.1)

pub edges : Right table
unfolding long_date short_date time_text clock shifted_date era_date common year_of start month_of day_in md_of figures first_from size count_text trimmed fixed_text decimal_text
edges = computed table (refl, (refl, (refl, (refl, (refl, (refl, (refl, (refl, (refl, (refl, (refl, (refl, (refl, tt)))))))))))))
