-- Not to be believed: words of inner contracts, on which no contract of what users call rests.
-- The region of data in the index of a job that passed: the place of the list of tables and those of its tables (33 numbers), how many
-- rows stand before each table and in all (17), for each table the place of its list of columns and those of its columns (33), and how many
-- tables there are and the place of each one's references (17).
use Rattle.std.specs.Prelude.{ℕ, ◌+◌, ◌*◌, ◌≤◌, ◌<◌, ◌≡◌, List, length, get_or}
use Rattle.codec.specs.Codec.{le_c}
use Rattle.codec.specs.Forms.{opt_c}
use Rattle.codec.specs.Skip.{skip, steps, count_at, Is}
use Rattle.codec.specs.Rows.{small}
use Rattle.format.specs.Data.{column_c, table_data_c}
use Rattle.format.specs.Sections.{job_of, trailer}
use Rattle.format.specs.Refusal.{rows_of_all}
use Rattle.format.specs.Ask.{data_of}
use Rattle.column.specs.Parts.{refs_c}
use Rattle.spec.specs.Kept.{Kept}
use Rattle.spec.specs.Region.{Stored, Listed, Lists}
use Rattle.tables.specs.Parts.{refs_from, columns_from, rows_before}

-- from here on, the columns of a table
abbrev pub columns_at : ℕ → ℕ
columns_at t = 2674 + t * 33

pub record TablesIndexed (b idx : List ℕ) : Type 0 where
  pub short : length b ≤ 65536
  pub few : length (job_of b).tables ≤ 16
  pub few_rows : rows_of_all (job_of b).tables ≤ 4096
  pub few_columns : (t : ℕ) → length (data_of (job_of b) t).columns ≤ 32
  pub tables : Listed table_data_c b (trailer b) idx 2624 (job_of b).tables
  pub first : (t : ℕ) → t ≤ length (job_of b).tables → get_or idx (2657 + t) 0 ≡ rows_before (job_of b).tables t
  pub count : get_or idx 3202 0 ≡ length (job_of b).tables
  pub refs : (t : ℕ) → t < length (job_of b).tables → Is refs_c b (trailer b) (get_or idx (3203 + t) 0) (data_of (job_of b) t).refs
  pub columns : (t : ℕ) → t < length (job_of b).tables → Listed (opt_c column_c) b (trailer b) idx (columns_at t) (data_of (job_of b) t).columns

-- the tables, and the columns of each
abbrev pub DataLists : List ℕ → ℕ → ℕ → ℕ → ℕ → List ℕ → List ℕ → Type 0
DataLists b e = Lists table_data_c (opt_c column_c) b e (columns_from b e) 2624 2674 3202

-- the places of the tables that stand at a place and those of their columns are stored, and nothing else
pub record DataInto (b : List ℕ) (e at : ℕ) (old new : List ℕ) : Type 0 where
  pub kept : Kept 2624 3202 old new
  pub tables : Stored table_data_c b e at 2624 new
  pub columns : (t : ℕ) → t < count_at b at e → Stored (opt_c column_c) b e (columns_from b e (steps table_data_c b e t (skip (le_c 4) b at e))) (2674 + t * 33) new

-- the count n of the tables and the places of their references are stored, and nothing else
pub record RefsStored (b : List ℕ) (e n : ℕ) (old new : List ℕ) : Type 0 where
  pub kept : Kept 3202 3219 old new
  pub count : 3202 < length old → get_or new 3202 0 ≡ small n
  pub place : (t : ℕ) → t < n → 3203 + t < length old → get_or new (3203 + t) 0 ≡ small (refs_from b e (get_or old (2625 + t) 0))

-- what filling does: the region of an index that has room for it, and nothing else
pub record TablesFilled (b old new : List ℕ) : Type 0 where
  pub kept : Kept 2624 4096 old new
  pub indexed : 4096 ≤ length old → TablesIndexed b new
