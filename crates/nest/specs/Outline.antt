-- A job's outline: the job as far as nesting and walking look at it (docs/RULES.md, "A job", "Keys" and "References"). What depends on cells is a
-- function here: the job gives it from its columns.
use Rattle.std.specs.Prelude.{ℕ, Bool, false, ◌&&◌, not, List, [], ◌∷◌, length, get_or, ltb, Option, None, Some}

-- spec/loops.rs
pub record Loop : Type 0 where
  pub parent : Option ℕ
  pub children : List ℕ
  pub occurrences : ℕ  -- how many occurrence segments
  pub required : Bool  -- its usage
  pub ends : Bool  -- `end` is set
  pub controlled : Bool  -- `control` is set

-- spec/tables.rs
pub record Table : Type 0 where
  pub loops : List ℕ
  pub repeats : Bool  -- `segment` is set
  pub parent : Option ℕ
  pub ancestors : List ℕ

-- write/plan.rs, `Instances`
pub data Kind : Type 0 where
  absent envelope implied : Kind
  rows inside groups : ℕ → Kind

-- the table whose rows a `Rows` loop enters
abbrev pub row_table : Kind → Option ℕ
row_table absent = None
row_table envelope = None
row_table implied = None
row_table (rows t) = Some t
row_table (inside t) = None
row_table (groups t) = None

-- the table whose row an `Inside` loop stands in
abbrev pub inside_table : Kind → Option ℕ
inside_table absent = None
inside_table envelope = None
inside_table implied = None
inside_table (rows t) = None
inside_table (inside t) = Some t
inside_table (groups t) = None

-- write/plan.rs, `SegmentSource`
pub data Source : Type 0 where
  of_envelope : Source
  of_row of_repeat : ℕ → Source

-- the table whose row a `Row` segment writes
abbrev pub source_table : Source → Option ℕ
source_table of_envelope = None
source_table (of_row t) = Some t
source_table (of_repeat t) = None

pub record Planned : Type 0 where
  pub occurrence : ℕ
  pub source : Source

pub record Plan : Type 0 where
  pub instances : Kind
  pub segments : List Planned

-- write/layout.rs
pub data Item : Type 0 where
  segment loop : ℕ → Item

pub record Outline : Type 0 where
  pub loops : List Loop
  pub roots : List ℕ
  pub tables : List Table  -- the spec's
  pub plan : List Plan
  pub order : List (List Item)
  pub row_counts : List ℕ  -- the rows of each table of data
  pub key : ℕ → ℕ → ℕ  -- table, row: by its 64 bits; the row's own number where it is not `Int64`
  pub reference : ℕ → ℕ → ℕ → Option ℕ  -- table, table above, row: by its 64 bits; none where it is null, absent or not `Int64`
  pub same_group : ℕ → ℕ → ℕ → Bool  -- loop, two rows of its table: the cells of its group columns are equal
  pub same_chunk : ℕ → ℕ → ℕ → ℕ → Bool  -- loop, planned segment, two rows of its repeat table: they may share a segment
  pub capacity : ℕ → ℕ  -- table; 1 where the layout has none
  pub forced : ℕ → ℕ → Bool  -- loop, planned segment; false where the layout has none
  pub filled : ℕ → ℕ → ℕ → ℕ → Bool  -- loop, planned segment, table, row: one of the column cells that it plans is not null

-- Reading a list at a number that it lacks gives what the Rust does there: nothing.
abbrev pub no_loop : Loop
no_loop = record { parent = None; children = []; occurrences = 0; required = false; ends = false; controlled = false }

abbrev pub no_table : Table
no_table = record { loops = []; repeats = false; parent = None; ancestors = [] }

abbrev pub no_plan : Plan
no_plan = record { instances = absent; segments = [] }

abbrev pub no_segment : Planned
no_segment = record { occurrence = 0; source = of_envelope }

unfoldable pub loop_of : Outline → ℕ → Loop
loop_of j l = get_or j.loops l no_loop

unfoldable pub table_of : Outline → ℕ → Table
table_of j t = get_or j.tables t no_table

unfoldable pub plan_of : Outline → ℕ → Plan
plan_of j l = get_or j.plan l no_plan

-- the loop that stands directly above
unfoldable pub parent_of : Outline → ℕ → Option ℕ
unfolding loop_of
parent_of j l = (loop_of j l).parent

unfoldable pub kind_of : Outline → ℕ → Kind
unfolding plan_of
kind_of j l = (plan_of j l).instances

unfoldable pub order_of : Outline → ℕ → List Item
order_of j l = get_or j.order l []

unfoldable pub segment_of : Outline → ℕ → ℕ → Planned
unfolding plan_of
segment_of j l i = get_or (plan_of j l).segments i no_segment

-- how many segments a loop plans
abbrev pub planned : Outline → ℕ → ℕ
planned j l = length (plan_of j l).segments

-- the spec has the occurrence that a planned segment names
unfoldable pub has_occurrence : Outline → ℕ → ℕ → Bool
unfolding loop_of segment_of
has_occurrence j l i = ltb (segment_of j l i).occurrence (loop_of j l).occurrences

unfoldable pub table_parent : Outline → ℕ → Option ℕ
unfolding table_of
table_parent j t = (table_of j t).parent

-- how many rows data has of a table
unfoldable pub row_count : Outline → ℕ → ℕ
row_count j t = get_or j.row_counts t 0

-- a table of the spec, with a repeat segment or without
unfoldable pub repeated : Outline → ℕ → Bool
unfolding table_of
repeated j t = ltb t (length j.tables) && (table_of j t).repeats

unfoldable pub plain : Outline → ℕ → Bool
unfolding table_of
plain j t = ltb t (length j.tables) && not (table_of j t).repeats

-- ---- the items of an order

abbrev pub item_loops : List Item → List ℕ
item_loops [] = []
item_loops (segment i ∷ more) = item_loops more
item_loops (loop k ∷ more) = k ∷ item_loops more

abbrev pub item_segments : List Item → List ℕ
item_segments [] = []
item_segments (segment i ∷ more) = i ∷ item_segments more
item_segments (loop k ∷ more) = item_segments more
