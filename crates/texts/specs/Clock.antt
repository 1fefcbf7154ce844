-- Times of day as X12.6 writes them, HHMM or HHMMSS, from the seconds since midnight, or the reason why there is none (docs/RULES.md, "Times").
use Rattle.std.specs.Prelude.{ℕ, ◌/◌, ◌%◌, Bool, List, ◌++◌, ℤ, ◌==◌, unsigned_abs}
use Rattle.texts.specs.Calendar.{or}
use Rattle.texts.specs.Reason.{Width, Outcome, gives, refuses, pick, shorter}
use Rattle.texts.specs.DateText.{two, between}

-- within one day of 86,400 seconds
abbrev pub within_day : ℤ → Bool
within_day s = between 0 86399 s

abbrev pub hours_minutes : ℕ → List ℕ
hours_minutes n = two (n / 3600) ++ two (n / 60 % 60)

abbrev pub hours_minutes_seconds : ℕ → List ℕ
hours_minutes_seconds n = two (n / 3600) ++ two (n / 60 % 60) ++ two (n % 60)

-- seconds are written where they are set, and only in an element that holds them
unfoldable pub clock : ℕ → Width → Outcome
clock n max =
    pick (n % 60 == 0)
    (gives (hours_minutes n))
    (pick (shorter max 6) (refuses 4) (gives (hours_minutes_seconds n)))

-- a cell's time
unfoldable pub time_text : ℤ → Width → Outcome
time_text s max = pick (within_day s) (clock (unsigned_abs s) max) (refuses 3)

-- an envelope's time, HHMM in ISA (X12.5): a short one loses its seconds
unfoldable pub short_clock : ℕ → Width → Outcome
short_clock n max =
    pick (or (n % 60 == 0) (shorter max 6)) (gives (hours_minutes n)) (gives (hours_minutes_seconds n))

unfoldable pub envelope_time : ℤ → Width → Outcome
envelope_time s max = pick (within_day s) (short_clock (unsigned_abs s) max) (refuses 3)
