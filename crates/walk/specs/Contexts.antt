-- Not to be believed: words of inner contracts, on which no contract of what users call rests.
-- A context as code keeps it: an array with a place for each table, and a run. `context_by` is the context that it stands for.
use Rattle.std.specs.Prelude.{ℕ, ◌+◌, List, get_or, set, replicate, Option, Some, None}
use Rattle.nest.specs.Found.{found_by, row_place}
use Rattle.spec.specs.declared.ids.RowId.{RowId}
use Rattle.walk.specs.declared.Context.{Context as Kept}
use Rattle.walk.specs.declared.Run.{Run as KeptRun}
use Rattle.walk.specs.Instances.{Context, Run, offset}
use Rattle.walk.specs.Bounds.{bound}

-- over any array: `read` gives the row that a place stands for, and `empty` stands for none
unfoldable pub context : {A : Type 0} → (A → Option ℕ) → A → List A → Option Run → Context
context read empty places run = record { row = λ t. read (get_or places t empty); run = run }

abbrev pub run_of : Option KeptRun → Option Run
run_of None = None
run_of (Some r) = Some (record { table = r.table.0; start = r.start; end = r.end })

abbrev pub run_by : Kept → Option Run
run_by c = run_of c.run

-- each place a row plus one, or 0
unfoldable pub context_by : Kept → Context
unfolding context
context_by c = context row_place 0 c.rows (run_by c)

-- ---- what code makes of one

abbrev pub kept_outside : Kept
kept_outside = record { rows = replicate 16 0; run = None }

abbrev pub kept_row : Kept → ℕ → ℕ → Kept
kept_row c t r = record { rows = set c.rows t (r + 1); run = None }

abbrev pub kept_piece : Kept → ℕ → ℕ → ℕ → ℕ → Kept
kept_piece c t head start end = record { rows = set c.rows t (head + 1); run = Some (record { table = record { 0 = t }; start = start; end = end }) }

-- the row of a table
unfoldable pub row_by : Kept → ℕ → Option RowId
row_by c t = found_by (row_place (get_or c.rows t 0))

-- the bounds of a table's rows
unfoldable pub start_by : Kept → ℕ → ℕ
start_by c t = offset t (run_by c)

unfoldable pub end_by : Kept → ℕ → ℕ → ℕ
end_by c t n = bound t (run_by c) n
