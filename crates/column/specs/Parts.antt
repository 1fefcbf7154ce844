-- Not to be believed: words of inner contracts, on which no contract of what users call rests.
-- Where the parts of a column and of a table's data stand, and what stands there.
use Rattle.std.specs.Prelude.{ℕ, ◌+◌, ◌≤◌, ◌<◌, ◌≡◌, List, length, get_or, Option}
use Rattle.codec.specs.Codec.{Codec, ◌⊗◌, le, list_c}
use Rattle.codec.specs.Field.{Stands}
use Rattle.codec.specs.Forms.{num_c, opt_c}
use Rattle.format.specs.Data.{Column, column_c}

-- a column of kind k, whose first list has n numbers
pub record ColumnOf (b : List ℕ) (at k n : ℕ) : Type 0 where
  pub stands : Stands column_c b at
  pub room : at + 5 ≤ length b
  pub kind : k ≡ get_or b at 0
  pub count : n ≡ le 4 b (at + 1)
  pub few : n < 4294967296

-- ---- a table's data: the number of rows stands first, the row column behind it
abbrev pub refs_c : Codec (List (ℕ × Option Column))
refs_c = list_c (num_c ⊗ opt_c column_c)
