-- Not to be believed: words of inner contracts, on which no contract of what users call rests.
-- What the readers' answers stand for.
use Rattle.std.specs.Prelude.{ℕ, ◌+◌, ◌*◌, ◌≤◌, ◌≡◌, List, Bool, length, take, drop, Option, None, Some}
use Rattle.codec.specs.Skip.{Is}
use Rattle.codec.specs.Forms.{opt_c}
use Rattle.format.specs.Data.{Column, column_c}
use Rattle.column.specs.Cell.{Cell, same_answer}
use Rattle.column.specs.declared.Cell.{Cell as Read}
use Rattle.column.specs.declared.Cell.TheVariants.{None as NoAnswer, Null, Bytes, Int, Wide, Days, Seconds}

-- a stretch of the job is its start and its length; of a wide number the low 64 bits come first
unfoldable pub cell_at : List ℕ → Read → Option Cell
cell_at b NoAnswer = None
cell_at b Null = Some Cell.null
cell_at b (Bytes s n) = Some (Cell.binary (take n (drop s b)))
cell_at b (Int x) = Some (Cell.int64 x)
cell_at b (Wide low high scale) = Some (Cell.decimal (low + 18446744073709551616 * high) scale)
cell_at b (Days x) = Some (Cell.date32 x)
cell_at b (Seconds x) = Some (Cell.time32 x)

-- a stretch is within the job
unfoldable pub Within : List ℕ → Read → Type 0
Within b NoAnswer = Unit {0}
Within b Null = Unit {0}
Within b (Bytes s n) = s + n ≤ length b
Within b (Int x) = Unit {0}
Within b (Wide low high scale) = Unit {0}
Within b (Days x) = Unit {0}
Within b (Seconds x) = Unit {0}

-- the answer r stands for x
pub record Reads (b : List ℕ) (r : Read) (x : Option Cell) : Type 0 where
  pub cell : cell_at b r ≡ x
  pub within : Within b r

-- v says whether the answers a and c are equal; where a is no stretch of the job, whatever bytes c stands for
pub record Compares (b : List ℕ) (a c : Read) (v : Bool) : Type 0 where
  pub read : (x y : Option Cell) → Reads b a x → Reads b c y → v ≡ same_answer x y
  pub apart : ((s n : ℕ) → a ≡ Bytes s n → ⊥) → (l : List ℕ) → v ≡ same_answer (cell_at l a) (cell_at l c)

-- the place of an optional column; nothing where there is no column to look for
abbrev pub OptColumnAt : List ℕ → ℕ → Option ℕ → Option Column → Type 0
OptColumnAt b e (Some p) o = Is (opt_c column_c) b e p o
OptColumnAt b e None o = o ≡ None
