-- What a cell is and which cell a column holds at a row (docs/RULES.md, "Cells"; the Rust's `Bitmap::get`, `ColumnData::get` and `Data`). A signed
-- number is kept as its bits.
use Rattle.std.specs.Prelude.{ℕ, ◌+◌, ◌-◌, ◌/◌, ◌%◌, ◌^◌, List, [], ◌∷◌, Bool, true, false, length, get_or, take, drop, leb, ltb, eqb, Option, None, Some}
use Rattle.codec.specs.Codec.{pick}
use Rattle.format.specs.Data.{Values, Column, TableData}

-- no value, bytes, a number, a number and how many of its digits are decimals, days since 1970, seconds since midnight
pub data Cell : Type 0 where
  null : Cell
  binary : List ℕ → Cell
  int64 : ℕ → Cell
  decimal : ℕ → ℕ → Cell
  date32 time32 : ℕ → Cell

-- ---- one column
-- the validity bit of a row, the lowest of a byte first; none past the bits and past the bytes
unfoldable pub bit_of : List ℕ → ℕ → ℕ → Option Bool
bit_of bytes count row = pick (ltb row count) (pick (ltb (row / 8) (length bytes)) (Some (eqb (get_or bytes (row / 8) 0 / 2 ^ (row % 8) % 2) 1)) None) None

-- the value of a row in a list of one value a row; none past its end
unfoldable pub held : (ℕ → Cell) → List ℕ → ℕ → Option Cell
held f values row = pick (ltb row (length values)) (Some (f (get_or values row 0))) None

-- the bytes from one offset up to another; none where an offset is negative (32 bits, two's complement), falls or passes the bytes
unfoldable pub between : List ℕ → ℕ → ℕ → Option Cell
between bytes from to =
    pick (leb 2147483648 from) None
    (pick (leb 2147483648 to) None
    (pick (ltb to from) None
    (pick (ltb (length bytes) to) None
    (Some (binary (take (to - from) (drop from bytes)))))))

-- the bytes of a row, which end where those of the next begin
unfoldable pub bytes_of : List ℕ → List ℕ → ℕ → Option Cell
bytes_of offsets bytes row = pick (ltb (row + 1) (length offsets)) (between bytes (get_or offsets row 0) (get_or offsets (row + 1) 0)) None

unfoldable pub value_of : Values → ℕ → Option Cell
value_of (Values.binary offsets bytes) row = bytes_of offsets bytes row
value_of (Values.int64 values scale) row = held int64 values row
value_of (Values.decimal values scale) row = held (λ x. decimal x scale) values row
value_of (Values.date32 values) row = held date32 values row
value_of (Values.time32 values) row = held time32 values row

-- without its bit a row has no answer; an unset bit gives null, whatever the values hold
abbrev pub validated : Option Bool → Option Cell → Option Cell
validated None value = None
validated (Some false) value = Some null
validated (Some true) value = value

unfoldable pub get : Column → ℕ → Option Cell
get c row = validated (bit_of c.validity c.length row) (value_of c.values row)

-- ---- a table's data
-- a column that is not there has no answers
unfoldable pub opt_get : Option Column → ℕ → Option Cell
opt_get None row = None
opt_get (Some c) row = get c row

-- a cell without an answer reads as null
abbrev pub or_null : Option Cell → Cell
or_null None = null
or_null (Some c) = c

unfoldable pub cell_in : Option Column → ℕ → Cell
cell_in column row = or_null (opt_get column row)

abbrev pub cell_of : TableData → ℕ → ℕ → Cell
cell_of t column row = cell_in (get_or t.columns column None) row

-- a `segment` column keeps that there is no answer
abbrev pub segment_cell : TableData → ℕ → Option Cell
segment_cell t row = opt_get t.segment row

abbrev pub int64_of : Option Cell → Option ℕ
int64_of None = None
int64_of (Some null) = None
int64_of (Some (binary bytes)) = None
int64_of (Some (int64 x)) = Some x
int64_of (Some (decimal x scale)) = None
int64_of (Some (date32 x)) = None
int64_of (Some (time32 x)) = None

abbrev pub or_else : ℕ → Option ℕ → ℕ
or_else d None = d
or_else d (Some x) = x

-- a key that is no Int64 is the row's own number
unfoldable pub key_in : Option Column → ℕ → ℕ
key_in column row = or_else row (int64_of (opt_get column row))

abbrev pub key_of : TableData → ℕ → ℕ
key_of t row = key_in t.row row

-- the first entry for a table counts, also where its column is absent
unfoldable pub ref_column : List (ℕ × Option Column) → ℕ → Option Column
ref_column [] above = None
ref_column (r ∷ refs) above = pick (eqb r.0 above) r.1 (ref_column refs above)

unfoldable pub reference_in : List (ℕ × Option Column) → ℕ → ℕ → Option ℕ
reference_in refs above row = int64_of (opt_get (ref_column refs above) row)

abbrev pub reference_of : TableData → ℕ → ℕ → Option ℕ
reference_of t above row = reference_in t.refs above row

-- ---- equal cells
abbrev pub both : Bool → Bool → Bool
both true t = t
both false t = false

unfoldable pub same_bytes : List ℕ → List ℕ → Bool
same_bytes [] [] = true
same_bytes [] (y ∷ m) = false
same_bytes (x ∷ l) [] = false
same_bytes (x ∷ l) (y ∷ m) = both (eqb x y) (same_bytes l m)

abbrev pub kind_of : Cell → ℕ
kind_of null = 0
kind_of (binary bytes) = 1
kind_of (int64 x) = 2
kind_of (decimal x scale) = 3
kind_of (date32 x) = 4
kind_of (time32 x) = 5

abbrev pub numbers_of : Cell → List ℕ
numbers_of null = []
numbers_of (binary bytes) = bytes
numbers_of (int64 x) = x ∷ []
numbers_of (decimal x scale) = x ∷ scale ∷ []
numbers_of (date32 x) = x ∷ []
numbers_of (time32 x) = x ∷ []

-- of one kind, with the same bytes or numbers
unfoldable pub same_cell : Cell → Cell → Bool
same_cell a b = both (eqb (kind_of a) (kind_of b)) (same_bytes (numbers_of a) (numbers_of b))

unfoldable pub same_cells : List Cell → List Cell → Bool
same_cells [] [] = true
same_cells [] (b ∷ ds) = false
same_cells (a ∷ cs) [] = false
same_cells (a ∷ cs) (b ∷ ds) = both (same_cell a b) (same_cells cs ds)

-- two answers, of which none and null differ
unfoldable pub same_answer : Option Cell → Option Cell → Bool
same_answer None None = true
same_answer None (Some b) = false
same_answer (Some a) None = false
same_answer (Some a) (Some b) = same_cell a b

abbrev pub is_null : Cell → Bool
is_null null = true
is_null (binary bytes) = false
is_null (int64 x) = false
is_null (decimal x scale) = false
is_null (date32 x) = false
is_null (time32 x) = false
