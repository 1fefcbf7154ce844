-- No decimal of a job that passed has a scale above 38 (refusal 5).
use Prim.Native.Nat.{ℕ, ◌+◌, ◌≤◌}
use mathlib.Core.Path.{◌≡◌, refl, ap, ◌∙◌}
use mathlib.Core.Bool.{Bool, true, false}
use mathlib.Core.List.{List}
use native.Mathlib.Omega.{arith}
use Rattle.std.specs.Prelude.{Option, None, Some}
use lib.ListN.{length, get_or}
use lib.Dec.{ltb, leb}
use borrow.Author.Tests.{ltb-false}
use Rattle.codec.specs.Codec.{pick}
use Rattle.codec.proofs.Limits.{none_of}
use Rattle.format.specs.Data.{Values, Column, TableData, no_table_data}
use Rattle.format.specs.Job.{Job}
use Rattle.format.specs.Ask.{data_of}
use Rattle.format.specs.Words.{if_some}
use Rattle.format.specs.Refusal.{scale, unfit_column, unfit_table_data, unfit}
use Rattle.column.specs.Cell.{Cell, null, binary, int64, decimal, date32, time32, bit_of, held, between, bytes_of, value_of, validated, get, opt_get, or_null, cell_in, cell_of}
use Rattle.column.specs.declared.Cell.{Cell as Read}
use Rattle.column.specs.declared.Cell.TheVariants.{None as NoAnswer, Null, Bytes, Int, Wide, Days, Seconds}
use Rattle.column.specs.Answers.{cell_at, Reads}
use Rattle.emit.specs.Written.{scale_in}
use Rattle.emit.proofs.NameLaws.{of_item_lem}

-- the scale of a decimal, 0 of any other cell
abbrev pub scale_of : Cell → ℕ
scale_of null = 0
scale_of (binary bytes) = 0
scale_of (int64 x) = 0
scale_of (decimal x s) = s
scale_of (date32 x) = 0
scale_of (time32 x) = 0

abbrev Low : Option Cell → Type 0
Low c = scale_of (or_null c) ≤ 38

either : (t : Bool) (c d : Option Cell) → Low c → Low d → Low (pick t c d)
either true c d h k = h
either false c d h k = k

low_none : Low None
low_none = omega arith

held_low : (f : ℕ → Cell) (xs : List ℕ) (row : ℕ) → ((x : ℕ) → scale_of (f x) ≤ 38) → Low (held f xs row)
unfolding held
held_low f xs row h = either (ltb row (length xs)) (Some (f (get_or xs row 0))) None (h _) low_none

between_low : (bytes : List ℕ) (from to : ℕ) → Low (between bytes from to)
unfolding between
between_low bytes from to =
    either (leb 2147483648 from) None _ low_none
    (either (leb 2147483648 to) None _ low_none
    (either (ltb to from) None _ low_none
    (either (ltb (length bytes) to) None _ low_none (omega arith))))

value_low : (v : Values) (row : ℕ) → scale v ≤ 38 → Low (value_of v row)
unfolding value_of scale bytes_of
value_low (Values.binary offsets bytes) row h = either (ltb (row + 1) (length offsets)) _ None (between_low bytes (get_or offsets row 0) (get_or offsets (row + 1) 0)) low_none
value_low (Values.int64 xs s) row h = held_low int64 xs row (λ x. omega arith)
value_low (Values.decimal xs s) row h = held_low (λ x. decimal x s) xs row (λ x. h)
value_low (Values.date32 xs) row h = held_low date32 xs row (λ x. omega arith)
value_low (Values.time32 xs) row h = held_low time32 xs row (λ x. omega arith)

column_low : (o : Option Column) (row : ℕ) → if_some unfit_column o ≡ false → scale_of (cell_in o row) ≤ 38
unfolding cell_in opt_get get unfit_column if_some
column_low None row h = omega arith
column_low (Some c) row h = go (bit_of c.validity c.length row)
  where
    go : (t : Option Bool) → Low (validated t (value_of c.values row))
    go None = omega arith
    go (Some false) = omega arith
    go (Some true) = value_low c.values row (ltb-false _ _ h)

pub scales_low : (j : Job) → unfit j ≡ false → (t column row : ℕ) → scale_of (cell_of (data_of j t) column row) ≤ 38
unfolding data_of unfit unfit_table_data if_some
scales_low j h t column row =
    of_item_lem unfit_table_data (λ (x : TableData). scale_of (cell_of x column row) ≤ 38) no_table_data j.tables (none_of _ _ (none_of _ _ (none_of _ _ h).1).1).0
    (column_low None row refl)
    (λ x k. of_item_lem (if_some unfit_column) (λ (o : Option Column). scale_of (cell_in o row) ≤ 38) None x.columns (none_of _ _ (none_of _ _ (none_of _ _ (none_of _ _ k).1).1).1).0 (column_low None row refl) (λ o q. column_low o row q) column) t

-- of a cell that was read
pub scale_read : (b : List ℕ) (read : Read) (c : Cell) → Reads b read (Some c) → scale_in read ≡ scale_of c
unfolding cell_at
scale_read b read c h = same read ∙ ap (λ (o : Option Cell). scale_of (or_null o)) h.cell
  where
    same : (r : Read) → scale_in r ≡ scale_of (or_null (cell_at b r))
    same NoAnswer = refl
    same Null = refl
    same (Bytes start len) = refl
    same (Int bits) = refl
    same (Wide low high s) = refl
    same (Days bits) = refl
    same (Seconds bits) = refl
