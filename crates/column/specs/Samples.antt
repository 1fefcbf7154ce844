-- Columns of each kind: their cells, the keys and references that they give, and one of them in bytes, by computation (docs/RULES.md, "Cells",
-- "Keys" and "References").
use Rattle.std.specs.Prelude.{ℕ, ◌≡◌, List, [], ◌∷◌, map, codes, None, Some}
use Rattle.codec.specs.Codec.{got}
use Rattle.format.specs.Data.{Values, Column, column_c}
use Rattle.column.specs.Cell.{Cell, get, opt_get, cell_in, key_in, reference_in}

-- Binary: `A1`, empty, null, an offset that falls; four rows
abbrev pub texts : Column
texts = record { values = Values.binary (0 ∷ 2 ∷ 2 ∷ 2 ∷ 1 ∷ []) (codes "A1"); validity = 11 ∷ []; length = 4 }

abbrev pub texts_bytes : List ℕ
texts_bytes = 0 ∷ 5 ∷ 0 ∷ 0 ∷ 0 ∷ 0 ∷ 0 ∷ 0 ∷ 0 ∷ 2 ∷ 0 ∷ 0 ∷ 0 ∷ 2 ∷ 0 ∷ 0 ∷ 0 ∷ 2 ∷ 0 ∷ 0 ∷ 0 ∷ 1 ∷ 0 ∷ 0 ∷ 0 ∷ 2 ∷ 0 ∷ 0 ∷ 0 ∷ 65 ∷ 49 ∷ 1 ∷ 0 ∷ 0 ∷ 0 ∷ 11 ∷ 4 ∷ 0 ∷ 0 ∷ 0 ∷ []

-- Binary: an offset past the data, and one that is negative in 32 bits
abbrev pub astray : Column
astray = record { values = Values.binary (0 ∷ 3 ∷ 4294967295 ∷ []) (codes "A1"); validity = 3 ∷ []; length = 2 }

-- Int64: -1, then a null and a set bit that have no value; nine rows, of which one byte of validity has eight
abbrev pub numbers : Column
numbers = record { values = Values.int64 (18446744073709551615 ∷ []) 2; validity = 5 ∷ []; length = 9 }

-- Decimal128: 1.50 at scale 2, and a null that has a value
abbrev pub amounts : Column
amounts = record { values = Values.decimal (150 ∷ 7 ∷ []) 2; validity = 1 ∷ []; length = 2 }

-- Date32 and Time32
abbrev pub days : Column
days = record { values = Values.date32 (20000 ∷ []); validity = 1 ∷ []; length = 1 }

abbrev pub seconds : Column
seconds = record { values = Values.time32 (3600 ∷ []); validity = 1 ∷ []; length = 1 }

pub record SamplesRead : Type 0 where
  -- the texts as they stand in a job
  pub bytes : column_c.read texts_bytes 0 40 ≡ got texts 40
  -- the answers of the rows, and of the row behind the last
  pub texts_cells : map (get texts) (0 ∷ 1 ∷ 2 ∷ 3 ∷ 4 ∷ []) ≡ Some (Cell.binary (codes "A1")) ∷ Some (Cell.binary []) ∷ Some Cell.null ∷ None ∷ None ∷ []
  pub astray_cells : map (get astray) (0 ∷ 1 ∷ 2 ∷ []) ≡ None ∷ None ∷ None ∷ []
  pub number_cells : map (get numbers) (0 ∷ 1 ∷ 2 ∷ 8 ∷ []) ≡ Some (Cell.int64 18446744073709551615) ∷ Some Cell.null ∷ None ∷ None ∷ []
  pub amount_cells : map (get amounts) (0 ∷ 1 ∷ 2 ∷ []) ≡ Some (Cell.decimal 150 2) ∷ Some Cell.null ∷ None ∷ []
  pub day_cells : map (get days) (0 ∷ 1 ∷ []) ≡ Some (Cell.date32 20000) ∷ None ∷ []
  pub second_cells : map (get seconds) (0 ∷ 1 ∷ []) ≡ Some (Cell.time32 3600) ∷ None ∷ []
  -- a column that isn't there has no answers; without an answer a cell is null
  pub absent : opt_get None 0 ≡ None
  pub cells : map (cell_in (Some texts)) (0 ∷ 2 ∷ 3 ∷ []) ≡ Cell.binary (codes "A1") ∷ Cell.null ∷ Cell.null ∷ []
  -- the key column gives the key; where it has no Int64, the row's own number does
  pub number_keys : map (key_in (Some numbers)) (0 ∷ 1 ∷ 2 ∷ []) ≡ 18446744073709551615 ∷ 1 ∷ 2 ∷ []
  pub text_keys : map (key_in (Some texts)) (0 ∷ 1 ∷ []) ≡ 0 ∷ 1 ∷ []
  pub no_key_column : key_in None 7 ≡ 7
  -- the first entry for a table counts, also without a column
  pub first_entry : reference_in ((4, Some numbers) ∷ (4, None) ∷ []) 4 0 ≡ Some 18446744073709551615
  pub without_column : reference_in ((4, None) ∷ (4, Some numbers) ∷ []) 4 0 ≡ None
  pub other_table : reference_in ((4, Some numbers) ∷ []) 3 0 ≡ None
