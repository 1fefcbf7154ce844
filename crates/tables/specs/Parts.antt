-- Not to be believed: words of inner contracts, on which no contract of what users call rests.
-- What is read of the lists of data that the index has places of.
use Rattle.std.specs.Prelude.{Option, Some, None}
use Rattle.std.specs.Prelude.{ℕ, zero, suc, ◌+◌, ◌≡◌, List, get_or, take}
use Rattle.codec.specs.Codec.{le, le_c}
use Rattle.codec.specs.Forms.{opt_c}
use Rattle.codec.specs.Skip.{skip, Is}
use Rattle.format.specs.Data.{column_c, TableData, table_data_c, no_table_data}
use Rattle.format.specs.Sections.{trailer}
use Rattle.format.specs.Refusal.{rows_of_all}
use Rattle.column.specs.Parts.{refs_c}

-- where the references of a table's data stand, and its columns
abbrev pub refs_from : List ℕ → ℕ → ℕ → ℕ
refs_from b e at = skip (opt_c column_c) b (skip (opt_c column_c) b (skip (le_c 4) b at e) e) e

abbrev pub columns_from : List ℕ → ℕ → ℕ → ℕ
columns_from b e at = skip refs_c b (refs_from b e at) e

-- how many rows the tables before t have
unfoldable pub rows_before : List TableData → ℕ → ℕ
rows_before ts t = rows_of_all (take t ts)

-- the same by the places of the tables that the index holds
unfoldable pub rows_by : List ℕ → List ℕ → ℕ → ℕ
rows_by b idx zero = 0
rows_by b idx (suc t) = rows_by b idx t + le 4 b (get_or idx (2625 + t) 0)

-- the place of a table's data; nothing where there is no such table
abbrev pub TableAt : List ℕ → Option ℕ → TableData → Type 0
TableAt b (Some p) v = Is table_data_c b (trailer b) p v
TableAt b None v = v ≡ no_table_data
