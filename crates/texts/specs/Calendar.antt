-- The Gregorian calendar, run forwards and backwards over all years, the year 0 and those before it too (ISO 8601), told day by day from
-- 1970-01-01, which is day 0 (docs/RULES.md, "Dates").
use Rattle.std.specs.Prelude.{ℕ, zero, suc, ◌+◌, ◌-◌, ◌%◌, ◌≤◌, ◌≡◌, Bool, true, false, not, [], ◌∷◌, ℤ, pos, negsuc, ◌+ℤ◌, ◌-ℤ◌, ◌==◌, int_le, nat_lt, slice_index, unsigned_abs}
use Rattle.std.proofs.Math.IntN.{suc_ℤ, pred_ℤ}

pub record Day : Type 0 where
  pub year : ℤ
  pub month : ℕ
  pub day : ℕ

abbrev pub day_of : ℤ → ℕ → ℕ → Day
day_of y m d = record { year = y; month = m; day = d }

abbrev pub and : Bool → Bool → Bool
and true b = b
and false b = false

abbrev pub or : Bool → Bool → Bool
or true b = true
or false b = b

abbrev pub divides : ℕ → ℤ → Bool
divides k y = unsigned_abs y % k == 0

-- every fourth year is a leap year, but of the centuries only every fourth
unfoldable pub leap : ℤ → Bool
leap y = and (divides 4 y) (or (not (divides 100 y)) (divides 400 y))

abbrev pub february : Bool → ℕ
february true = 29
february false = 28

-- the days of the months 1 to 12, of a leap year or not
unfoldable pub month_length : Bool → ℕ → ℕ
month_length l m = slice_index (31 ∷ february l ∷ 31 ∷ 30 ∷ 31 ∷ 30 ∷ 31 ∷ 31 ∷ 30 ∷ 31 ∷ 30 ∷ 31 ∷ []) (m - 1)

-- a date that the calendar has
pub record Valid (t : Day) : Type 0 where
  pub from_january : 1 ≤ t.month
  pub to_december : t.month ≤ 12
  pub from_first : 1 ≤ t.day
  pub to_last : t.day ≤ month_length (leap t.year) t.month

abbrev pub pick_day : Bool → Day → Day → Day
pick_day true a b = a
pick_day false a b = b

unfoldable pub tomorrow : Day → Day
tomorrow t =
    pick_day (nat_lt t.day (month_length (leap t.year) t.month))
    (day_of t.year t.month (t.day + 1))
    (pick_day (nat_lt t.month 12) (day_of t.year (t.month + 1) 1) (day_of (suc_ℤ t.year) 1 1))

unfoldable pub yesterday : Day → Day
yesterday t =
    pick_day (nat_lt 1 t.day)
    (day_of t.year t.month (t.day - 1))
    (pick_day (nat_lt 1 t.month)
    (day_of t.year (t.month - 1) (month_length (leap t.year) (t.month - 1)))
    (day_of (pred_ℤ t.year) 12 31))

-- the date of a day: pos n is n days after 1970-01-01, negsuc n is n + 1 days before it
unfoldable pub civil_of : ℤ → Day
civil_of (pos zero) = day_of (pos 1970) 1 1
civil_of (pos (suc n)) = tomorrow (civil_of (pos n))
civil_of (negsuc zero) = yesterday (day_of (pos 1970) 1 1)
civil_of (negsuc (suc n)) = yesterday (civil_of (negsuc n))

-- The same counted forward in years and months: proofs/Count.antt shows that a valid date is the date of its number, and of no other.
-- The days of a year before a month,
unfoldable pub days_before : Bool → ℕ → ℕ
days_before l zero = 0
days_before l (suc zero) = 0
days_before l (suc (suc m)) = days_before l (suc m) + month_length l (suc m)

abbrev pub year_length : Bool → ℕ
year_length true = 366
year_length false = 365

-- those between the first of January of the year 0 and of another year,
unfoldable pub new_year : ℤ → ℤ
new_year (pos zero) = pos 0
new_year (pos (suc n)) = new_year (pos n) +ℤ pos (year_length (leap (pos n)))
new_year (negsuc zero) = pos 0 -ℤ pos (year_length (leap (negsuc zero)))
new_year (negsuc (suc n)) = new_year (negsuc n) -ℤ pos (year_length (leap (negsuc (suc n))))

-- and those between 1970-01-01 and a date
unfoldable pub day_number : Day → ℤ
day_number t = new_year t.year +ℤ pos (days_before (leap t.year) t.month + (t.day - 1)) -ℤ new_year (pos 1970)

-- 719,468 days more do not overflow an i32; a day for which they do has no text, for reason 1 (docs/RULES.md, "Reasons")
abbrev pub near : ℤ → Bool
near d = int_le (d +ℤ pos 719468) (pos 2147483647)

-- Days and dates, one for one: a law of these definitions.
pub record DaysAndDates : Type 0 where
  -- the date of a day is one of the calendar
  pub valid : (d : ℤ) → Valid (civil_of d)
  -- its number is the day
  pub day : (d : ℤ) → day_number (civil_of d) ≡ d
  -- a valid date is the date of its number
  pub date : (t : Day) → Valid t → civil_of (day_number t) ≡ t
  -- no two valid dates have the same number
  pub one_date : (t u : Day) → Valid t → Valid u → day_number t ≡ day_number u → t ≡ u
