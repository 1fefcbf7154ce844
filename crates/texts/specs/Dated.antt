-- Not to be believed: words of inner contracts, beside those of Calendar, on which no contract of what users call rests.
use Rattle.std.specs.Prelude.{ℕ, ℤ, pos, ◌-ℤ◌, Option}
use Rattle.std.specs.Bool.{then_some}
use Rattle.texts.specs.declared.parse.Date.{Date}
use Rattle.texts.specs.Calendar.{Day, civil_of, near}

-- the date e days after the first of March of the year 0
unfoldable pub from_march : ℕ → Day
from_march e = civil_of (pos e -ℤ pos 719468)

abbrev pub dated : Day → Date
dated t = record { year = t.year; month = t.month; day = t.day }

-- what is answered of a day: its date, or none
unfoldable pub civil_from : ℤ → Option Date
civil_from d = then_some (near d) (dated (civil_of d))
