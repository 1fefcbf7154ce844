-- Laws of the definitions of specs/Parts, and words that only proofs use.
use Rattle.std.specs.Prelude.{ℕ, ◌+◌, ◌≤◌, ◌<◌, ◌≡◌, refl, List, length, get_or, None}
use Rattle.std.proofs.Math.ListN.{get_or-eq_default}
use Rattle.codec.specs.Codec.{◌⊗◌, list_c}
use Rattle.codec.specs.Skip.{skip, steps, Is}
use Rattle.codec.proofs.Skip.{skip_le}
use Rattle.codec.proofs.Field.{is_map, is_pair, is_list, is_le}
use Rattle.codec.specs.Forms.{num_c, bytes_c, opt_c}
use Rattle.format.specs.Data.{values_c, Column, column_c, TableData, table_data_c}
use Rattle.column.specs.Cell.{Cell, opt_get, cell_in, cell_of, key_in}
use Rattle.column.specs.Parts.{refs_c}

pub record ColumnIs (b : List ℕ) (e at : ℕ) (v : Column) : Type 0 where
  pub values : Is values_c b e at v.values
  pub validity : Is (bytes_c ⊗ num_c) b e (skip values_c b at e) (v.validity, v.length)

pub is_column : (b : List ℕ) (e at : ℕ) (v : Column) → Is column_c b e at v → ColumnIs b e at v
unfolding column_c
is_column b e at v h = let t = is_pair _ _ b e at _ (is_map _ _ _ _ _ b e at v h) in record { values = t.0; validity = t.1 }

-- ---- a table's data: the number of rows stands first, the row column behind it

abbrev pub segment_place : List ℕ → ℕ → ℕ → ℕ
segment_place b e at = skip (opt_c column_c) b (at + 4) e

abbrev pub refs_place : List ℕ → ℕ → ℕ → ℕ
refs_place b e at = skip (opt_c column_c) b (segment_place b e at) e

abbrev pub columns_place : List ℕ → ℕ → ℕ → ℕ
columns_place b e at = skip refs_c b (refs_place b e at) e

-- column i of a table's columns
abbrev pub column_place : List ℕ → ℕ → ℕ → ℕ → ℕ
column_place b e at i = steps (opt_c column_c) b e i (columns_place b e at + 4)

pub record TableDataIs (b : List ℕ) (e at : ℕ) (v : TableData) : Type 0 where
  pub rows : Is num_c b e at v.rows
  pub row : Is (opt_c column_c) b e (at + 4) v.row
  pub segment : Is (opt_c column_c) b e (segment_place b e at) v.segment
  pub refs : Is refs_c b e (refs_place b e at) v.refs
  pub columns : Is (list_c (opt_c column_c)) b e (columns_place b e at) v.columns
  pub column : (i : ℕ) → i < length v.columns → Is (opt_c column_c) b e (column_place b e at i) (get_or v.columns i None)

pub is_table_data : (b : List ℕ) (e at : ℕ) (v : TableData) → Is table_data_c b e at v → TableDataIs b e at v
unfolding table_data_c
is_table_data b e at v h = go t (skip_le 4 b at e (is_le 4 b e at v.rows t.0).0)
  where
    Behind : ℕ → Type 0
    Behind p = Is (opt_c column_c ⊗ opt_c column_c ⊗ refs_c ⊗ list_c (opt_c column_c)) b e p (v.row, (v.segment, (v.refs, v.columns)))

    t : Is num_c b e at v.rows × Behind (skip num_c b at e)
    t = is_pair _ _ b e at _ (is_map _ _ _ _ _ b e at v h)

    go : Is num_c b e at v.rows × Behind (skip num_c b at e) → skip num_c b at e ≡ at + 4 → TableDataIs b e at v
    go t q =
        let u = is_pair _ _ b e (at + 4) _ (rw q at t.1) in
        let w = is_pair _ _ b e _ _ u.1 in
        let x = is_pair _ _ b e _ _ w.1 in
        record {
          rows = t.0;
          row = u.0;
          segment = w.0;
          refs = x.0;
          columns = x.1;
          column = λ i k. (is_list (opt_c column_c) b e (columns_place b e at) v.columns x.1).item i None k;
        }

-- ---- what is not there
pub absent_cell : (row : ℕ) → cell_in None row ≡ Cell.null
unfolding cell_in opt_get
absent_cell row = refl

pub past_cell : (t : TableData) (column row : ℕ) → length t.columns ≤ column → cell_of t column row ≡ Cell.null
past_cell t column row h = rw (get_or-eq_default t.columns None h) (absent_cell row)

pub absent_key : (row : ℕ) → key_in None row ≡ row
unfolding key_in opt_get
absent_key row = refl
