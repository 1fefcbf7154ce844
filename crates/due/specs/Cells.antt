-- Not to be believed: words of inner contracts, on which no contract of what users call rests.
-- What the functions below the contracts of this crate look at: a cell, and the cell that a planned value names (`nest/specs/OfJob`).
use Rattle.std.specs.Prelude.{ℕ, Bool, not, Option, Some, None}
use Rattle.format.specs.Plan as P
use Rattle.format.specs.Job.{Job}
use Rattle.format.specs.Ask.{data_of}
use Rattle.column.specs.Cell.{cell_of, same_cell, is_null}
use Rattle.spec.specs.declared.ids.TableId.{TableId}

-- column c of row r of table t has a value: an empty Binary is one
abbrev pub has_value : Job → ℕ → ℕ → ℕ → Bool
has_value j t r c = not (is_null (cell_of (data_of j t) c r))

-- rows a and b of table t differ in column c
abbrev pub differ : Job → ℕ → ℕ → ℕ → ℕ → Bool
differ j t a b c = not (same_cell (cell_of (data_of j t) c a) (cell_of (data_of j t) c b))

-- the table of a `Groups` loop
abbrev pub groups_in : P.Instances → Option TableId
groups_in P.absent = None
groups_in P.enveloped = None
groups_in (P.rows_of t) = None
groups_in (P.inside t) = None
groups_in (P.groups_of t) = Some (record { 0 = t })
groups_in P.implied = None

-- the table of a `Repeat` segment
abbrev pub repeats_in : P.Source → Option TableId
repeats_in P.from_envelope = None
repeats_in (P.from_row t) = None
repeats_in (P.from_repeat t) = Some (record { 0 = t })
