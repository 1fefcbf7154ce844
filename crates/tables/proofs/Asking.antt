-- The ways through the accessors.
use Prim.Native.Nat.{ℕ, zero, suc, ◌+◌, ◌≤◌, ◌<◌, min}
use mathlib.Core.Path.{◌≡◌, refl, sym, ap, ◌∙◌}
use mathlib.Core.List.{List, [], ◌∷◌}
use mathlib.Core.Bool.{Bool, true, false}
use native.Mathlib.Omega.{arith}
use Rattle.std.specs.Prelude.{Option, None, Some}
use lib.ListN.{length, get_or, get_or-eq_default}
use lib.Dec.{ltb}
use borrow.Author.Tests.{ltb-true, ltb-false}
use Rattle.codec.specs.Codec.{Codec, le}
use Rattle.codec.specs.Forms.{opt_c}
use Rattle.codec.specs.Skip.{skip, Is}
use Rattle.codec.specs.Field.{Stands}
use Rattle.codec.proofs.Field.{stands_at, is_list, is_le}
use Rattle.format.specs.Data.{Column, column_c, TableData, table_data_c, no_table_data}
use Rattle.format.specs.Sections.{job_of, trailer}
use Rattle.format.specs.Refusal.{rows_of_all}
use Rattle.format.specs.Ask.{data_of}
use Rattle.column.specs.Cell.{cell_of, segment_cell, opt_get, key_of, reference_of, reference_in, ref_column}
use Rattle.column.specs.Answers.{Reads, Within, cell_at}
use Rattle.column.specs.declared.Cell.TheVariants as cell
use Rattle.column.proofs.Parts.{TableDataIs, is_table_data, absent_cell, absent_key, past_cell}
use Rattle.tables.specs.Parts.{TableAt, rows_before}
use Rattle.spec.specs.Region.{ItemAt}
use Rattle.spec.proofs.RegionLaws.{listed_is}
use Rattle.tables.specs.Index.{TablesIndexed, columns_at}

before_past : (ts : List TableData) (t : ℕ) → length ts ≤ t → rows_before ts (length ts) ≡ rows_before ts t
unfolding rows_before rows_of_all
before_past [] zero h = refl
before_past [] (suc t) h = refl
before_past (y ∷ ts) zero h = absurd (omega arith)
before_past (y ∷ ts) (suc t) h = ap (λ n. y.rows + n) (before_past ts t (omega arith))

module _ (b idx : List ℕ) (x : TablesIndexed b idx) where
  pub past_table : (n t : ℕ) → n ≡ length (job_of b).tables → n ≤ t → data_of (job_of b) t ≡ no_table_data
  unfolding data_of
  past_table n t h q = get_or-eq_default (job_of b).tables no_table_data (omega arith)

  pub table_there : (n t p : ℕ) → n ≡ length (job_of b).tables → t < n → p ≡ get_or idx (2625 + t) 0 → Is table_data_c b (trailer b) p (data_of (job_of b) t)
  unfolding data_of
  table_there n t p h q i = let f = x.few in rw i (x.tables.item t no_table_data (omega arith) (omega arith))

  pub first_there : (n t m p : ℕ) → n ≡ length (job_of b).tables → m ≡ min n t → p ≡ get_or idx (2657 + m) 0 → p ≡ rows_before (job_of b).tables t
  first_there n t m p h l q = q ∙ x.first m (omega (arith, h, l)) ∙ go (ltb t n) refl
    where
      go : (u : Bool) → ltb t n ≡ u → rows_before (job_of b).tables m ≡ rows_before (job_of b).tables t
      go true w = let i : m ≡ t = omega (arith, l, ltb-true t n w) in rw i
      go false w = let i : m ≡ length (job_of b).tables = omega (arith, h, l, ltb-false t n w) in rw i (before_past (job_of b).tables t (omega (arith, h, ltb-false t n w)))

  -- the columns of a table
  pub column_there : (t i p : ℕ) → t < length (job_of b).tables → ItemAt b idx (columns_at t) i (Some p) → Is (opt_c column_c) b (trailer b) p (get_or (data_of (job_of b) t).columns i None)
  column_there t i p h q =
      let l = x.columns t h in
      let c = (is_list (opt_c column_c) b (trailer b) _ _ l.list).counted in
      let f = x.few_columns t in
      listed_is (opt_c column_c) b (trailer b) idx (columns_at t) _ l i p None (omega (arith, q.0, c, f)) q

  pub column_past : (t i row : ℕ) → t < length (job_of b).tables → ItemAt b idx (columns_at t) i None → Reads b cell.Null (Some (cell_of (data_of (job_of b) t) i row))
  unfolding cell_at Within
  column_past t i row h m =
      let l = x.columns t h in
      let c = (is_list (opt_c column_c) b (trailer b) _ _ l.list).counted in
      record { cell = ap Some (sym (past_cell (data_of (job_of b) t) i row (omega (arith, m, c)))); within = search }

-- ---- a table's data at a place
-- what is read up to the trailer stands within the job
pub stands_before : {A : Type 0} {C : Codec A} {b : List ℕ} {p : ℕ} {v : A} → Is C b (trailer b) p v → Stands C b p
stands_before {C = C} {b} {p} {v} h = stands_at C b p p (trailer b) v refl (omega arith) h

pub at_num : (b : List ℕ) (r : Option ℕ) (p : ℕ) (v : TableData) → r ≡ Some p → TableAt b r v → Is table_data_c b (trailer b) p v
at_num b r p v e h = rw e at h

pub at_nothing : (b : List ℕ) (r : Option ℕ) (v : TableData) → r ≡ None → TableAt b r v → v ≡ no_table_data
at_nothing b r v e h = rw e at h

module _ (b : List ℕ) (p : ℕ) (v : TableData) (h : Is table_data_c b (trailer b) p v) where
  all : TableDataIs b (trailer b) p v
  all = is_table_data b (trailer b) p v h

  pub rows_there : p + 4 ≤ length b
  rows_there = omega (arith, (is_le 4 b (trailer b) _ _ all.rows).0)

  pub rows_is : (n : ℕ) → n ≡ le 4 b p → n ≡ v.rows
  rows_is n q = q ∙ sym (is_le 4 b (trailer b) _ _ all.rows).1

  pub row_there : Is (opt_c column_c) b (trailer b) (p + 4) v.row
  row_there = all.row

  module _ (s : ℕ) (f : (e : ℕ) (o : Option Column) → Is (opt_c column_c) b e (p + 4) o → s ≡ skip (opt_c column_c) b (p + 4) e) where
    pub segment_there : Is (opt_c column_c) b (trailer b) s v.segment
    segment_there = rw (f _ _ row_there) all.segment

-- ---- a table that is not there
pub none_cell : (b : List ℕ) (v : TableData) (column row : ℕ) → v ≡ no_table_data → Reads b cell.Null (Some (cell_of v column row))
unfolding cell_at Within
none_cell b v column row h = record { cell = rw h (ap Some (sym (absent_cell row))); within = search }

pub none_segment : (b : List ℕ) (v : TableData) (row : ℕ) → v ≡ no_table_data → Reads b cell.None (segment_cell v row)
unfolding cell_at Within opt_get
none_segment b v row h = record { cell = rw h; within = search }

pub none_key : (v : TableData) (row : ℕ) → v ≡ no_table_data → row ≡ key_of v row
none_key v row h = rw h (sym (absent_key row))

pub none_reference : (v : TableData) (above row : ℕ) → v ≡ no_table_data → None ≡ reference_of v above row
unfolding reference_in ref_column opt_get
none_reference v above row h = rw h
