-- The text of a cell at its place, as code asks for it.
use Prim.Native.Nat.{ℕ}
use mathlib.Core.Path.{◌≡◌}
use mathlib.Core.List.{List}
use Rattle.std.specs.Prelude.{Option, Some}
use Rattle.format.specs.Sections.{job_of}
use Rattle.format.specs.Ask.{max_of, data_of}
use Rattle.texts.specs.Reason.{Outcome}
use Rattle.column.specs.Cell.{cell_of, or_null}
use Rattle.column.specs.declared.Cell.{Cell as Read}
use Rattle.column.specs.Answers.{cell_at, Reads}
use Rattle.emit.specs.declared.cells.Written.{Written}
use Rattle.emit.specs.Puts.{cell_text, cell_outcome}
use Rattle.emit.specs.Written.{Writes}

pub cell_outcome_lem : (b id : List ℕ) (t r e : ℕ) (c : Option ℕ) (column : ℕ) {read : Read} {w : Written} → Reads b read (Some (cell_of (data_of (job_of b) t) column r))
    → Writes b w (cell_text (or_null (cell_at b read)) (max_of (job_of b) id e c)) → Writes b w (cell_outcome (job_of b) id t r e c column)
cell_outcome_lem b id t r e c column h f = rw h.cell at f

pub writes_as : {b : List ℕ} {w : Written} {o p : Outcome} → o ≡ p → Writes b w p → Writes b w o
writes_as e h = rw e h
