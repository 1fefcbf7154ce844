-- Not to be believed: words of inner contracts, on which no contract of what users call rests.
-- Tables whose rows hang on rising rows: the rows that hang on one row stand together, and halving finds them.
use Rattle.std.specs.Prelude.{ℕ, ◌+◌, ◌-◌, ◌≤◌, ◌<◌, Bool, not, List, [], ◌∷◌, length, get_or, eqb, ltb}
use Rattle.nest.specs.Lists.{once, each, some_of}
use Rattle.nest.specs.UpTo.{up_to}
use Rattle.nest.specs.Outline.{Outline, row_count}
use Rattle.nest.specs.Nest.{nest_record}
use Rattle.nest.specs.Found.{nest_at}

-- the row that row r hangs on plus one, or 0
unfoldable pub above_of : Outline → ℕ → ℕ → ℕ
above_of j t r = get_or (nest_record j t r) 0 0

-- it hangs on an earlier row than the row before it
unfoldable pub falls_at : Outline → ℕ → ℕ → Bool
falls_at j t r = ltb (above_of j t r) (above_of j t (r - 1))

-- some row does
unfoldable pub falls : Outline → ℕ → Bool
falls j t = some_of (falls_at j t) (up_to 1 (row_count j t))

abbrev pub rising_flag : Outline → ℕ → List ℕ
rising_flag j t = once (not (falls j t)) ∷ []

-- of each table of data: 1 where none does
unfoldable pub rising_flags : Outline → List ℕ
rising_flags j = each (rising_flag j) (up_to 0 (length j.row_counts))

-- ---- by nest's numbers

-- the flag of table t, among the last sixteen, is set
unfoldable pub rises : List ℕ → ℕ → Bool
rises n t = eqb (get_or n (length n - 16 + t) 0) 1

-- a later row hangs on the same row as an earlier one, or on a later
pub record Climbs (n : List ℕ) (base rows : ℕ) : Type 0 where
  pub climb : (i k : ℕ) → i ≤ k → k < rows → nest_at n base i 0 ≤ nest_at n base k 0

-- of the rows from `from` on, those before k have numbers below `above`, and the others have not
pub record Parted (n : List ℕ) (base from rows above k : ℕ) : Type 0 where
  pub after : from ≤ k
  pub within : k ≤ rows
  pub below : (r : ℕ) → from ≤ r → r < k → nest_at n base r 0 < above
  pub rest : (r : ℕ) → k ≤ r → r < rows → above ≤ nest_at n base r 0
