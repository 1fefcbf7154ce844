-- Not to be believed: words of inner contracts, on which no contract of what users call rests.
-- The table that placed a repeat row, by nest's numbers.
use Rattle.std.specs.Prelude.{ℕ, zero, suc, List, Option, None, Some}
use Rattle.nest.specs.Found.{nest_at}

-- the row above plus one, or 0, and the table that placed the row
abbrev pub placed : ℕ → ℕ → Option ℕ
placed zero u = None
placed (suc p) u = Some u

unfoldable pub placed_at : List ℕ → ℕ → ℕ → Option ℕ
placed_at nest base r = placed (nest_at nest base r 0) (nest_at nest base r 2)
