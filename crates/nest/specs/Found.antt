-- Not to be believed: words of inner contracts, on which no contract of what users call rests.
-- A row that may be there, as an answer of code; and the rows that hang on a row, by nest's numbers.
use Rattle.std.specs.Prelude.{ℕ, zero, suc, ◌+◌, ◌*◌, ◌≤◌, ◌<◌, ◌≡◌, Bool, ◌&&◌, List, length, get_or, eqb, Option, Some, None}
use Rattle.spec.specs.declared.ids.RowId.{RowId}
use Rattle.nest.specs.Outline.{Outline}
use Rattle.nest.specs.Nest.{nest_array}

abbrev pub found_by : Option ℕ → Option RowId
found_by None = None
found_by (Some r) = Some (record { 0 = r })

-- a row plus one, or 0
abbrev pub row_place : ℕ → Option ℕ
row_place zero = None
row_place (suc r) = Some r

-- number i of row r of a table whose rows start at `base`
abbrev pub nest_at : List ℕ → ℕ → ℕ → ℕ → ℕ
nest_at nest base r i = get_or nest ((base + r) * 3 + i) 0

-- the row that it hangs on
unfoldable pub row_above : List ℕ → ℕ → ℕ → Option RowId
row_above nest base r = found_by (row_place (nest_at nest base r 0))

-- whether it hangs on row p of its parent
unfoldable pub held_at : List ℕ → ℕ → ℕ → ℕ → Bool
held_at nest base p r = eqb (nest_at nest base r 0) (p + 1)

-- whether a repeat row goes into the instance of loop l that row p opens
unfoldable pub hooked_at : List ℕ → ℕ → ℕ → ℕ → ℕ → Bool
hooked_at nest base l p r = held_at nest base p r && eqb (nest_at nest base r 1) l

-- a lent list that holds nest's numbers
pub record ArrayIs (j : Outline) (n : List ℕ) : Type 0 where
  pub room : length (nest_array j) ≤ length n
  pub numbers : (i : ℕ) → i < length (nest_array j) → get_or n i 0 ≡ get_or (nest_array j) i 0
