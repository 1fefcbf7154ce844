-- Dates as X12.6 writes them, CCYYMMDD or YYMMDD, or the reason why there is none: the years that fit (docs/RULES.md, "Dates").
use Rattle.std.specs.Prelude.{ℕ, ◌+◌, ◌/◌, ◌%◌, Bool, true, false, List, [], ◌∷◌, ◌++◌, drop, ℤ, pos, negsuc, nat_le, unsigned_abs, None}
use Rattle.texts.specs.Calendar.{Day, and, civil_of, near}
use Rattle.texts.specs.Reason.{Width, Outcome, gives, refuses, pick, shorter}

-- two digits; 48 is the digit 0
abbrev pub two : ℕ → List ℕ
two n = (48 + n / 10) ∷ (48 + n % 10) ∷ []

abbrev pub between : ℕ → ℕ → ℤ → Bool
between low high (pos n) = and (nat_le low n) (nat_le n high)
between low high (negsuc n) = false

abbrev pub month_day : Day → List ℕ
month_day t = two t.month ++ two t.day

-- CCYYMMDD, of the years from 1 to 9999
unfoldable pub long_date : Day → Outcome
long_date t =
    let y = unsigned_abs t.year in
    pick (between 1 9999 t.year) (gives (two (y / 100) ++ two (y % 100) ++ month_day t)) (refuses 1)

-- YYMMDD, of the years from low to high
unfoldable pub short_date : ℕ → ℕ → ℕ → Day → Outcome
short_date low high reason t =
    pick (between low high t.year) (gives (two (unsigned_abs t.year % 100) ++ month_day t)) (refuses reason)

-- a cell's date: six digits where the element holds fewer than eight, of the years that they are read as
abbrev pub day_text : Day → Width → Outcome
day_text t max = pick (shorter max 8) (short_date 1950 2049 2 t) (long_date t)

-- days too far on have none
unfoldable pub date_text : ℤ → Width → Outcome
date_text d max = pick (near d) (day_text (civil_of d) max) (refuses 1)

abbrev pub without_century : Bool → Outcome → Outcome
without_century true o = record { text = drop 2 o.text; reason = o.reason }
without_century false o = o

-- an envelope's date, CCYYMMDD in GS and YYMMDD in ISA (X12.5): a short one loses its first two digits whatever the century
unfoldable pub envelope_date : ℤ → Width → Outcome
envelope_date d max = without_century (shorter max 8) (date_text d None)
