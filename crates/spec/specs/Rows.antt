-- Not to be believed: words of inner contracts, on which no contract of what users call rests.
-- The numbers that the index holds: the places of the parts of each loop and each table, one row after the other, and those of the envelope.
use Rattle.std.specs.Prelude.{ℕ, List, [], ◌∷◌}
use Rattle.codec.specs.Codec.{le_c, ◌⊗◌}
use Rattle.codec.specs.Skip.{skip, count_at}
use Rattle.codec.specs.Forms.{bytes_c}
use Rattle.codec.specs.Rows.{rows, small}
use Rattle.format.specs.Spec.{loop_c, table_c, segment_c}
use Rattle.format.specs.Fields.{loop_trigger, loop_occurrences, loop_usage, loop_end, loop_control, loop_children, table_segment, table_repeat, table_columns, table_parent, table_ancestors}

-- the parts of a loop that stands at a place
abbrev pub loop_row : List ℕ → ℕ → ℕ → List ℕ
loop_row b e at = small at ∷ small (loop_trigger b e at) ∷ small (loop_occurrences b e at) ∷ small (loop_usage b e at) ∷ small (loop_end b e at) ∷ small (loop_control b e at) ∷ small (loop_children b e at) ∷ []

-- the parts of a table
abbrev pub table_row : List ℕ → ℕ → ℕ → List ℕ
table_row b e at = small at ∷ small (table_segment b e at) ∷ small (table_repeat b e at) ∷ small (table_columns b e at) ∷ small (table_parent b e at) ∷ small (table_ancestors b e at) ∷ []

-- the rows of a list that stands at a place
unfoldable pub loop_rows : List ℕ → ℕ → ℕ → List ℕ
loop_rows b e at = rows loop_c b e (loop_row b e) (count_at b at e) (skip (le_c 4) b at e)

unfoldable pub table_rows : List ℕ → ℕ → ℕ → List ℕ
table_rows b e at = rows table_c b e (table_row b e) (count_at b at e) (skip (le_c 4) b at e)

-- the place of an entry
abbrev pub entry_row : ℕ → List ℕ
entry_row at = small at ∷ []

unfoldable pub entry_rows : List ℕ → ℕ → ℕ → List ℕ
entry_rows b e at = rows (bytes_c ⊗ segment_c) b e entry_row (count_at b at e) (skip (le_c 4) b at e)
