-- The outline of a job: what nesting and walking look at, read off its sections. Cells are looked at through the functions alone.
use Rattle.std.specs.Prelude.{ℕ, Bool, true, false, not, ◌&&◌, List, [], ◌∷◌, map, length, Option}
use Rattle.format.specs.Spec as S
use Rattle.format.specs.Plan as P
use Rattle.format.specs.Layout as L
use Rattle.format.specs.Data.{TableData}
use Rattle.format.specs.Job.{Job}
use Rattle.column.specs.Cell.{cell_of, segment_cell, key_of, reference_of, same_cell, same_answer, is_null}
use Rattle.spec.specs.Usage.{is_required}
use Rattle.format.specs.Ask.{plan_of, planned_of, forced_of, group_columns_of, capacity_of, data_of}
use Rattle.nest.specs.Lists.{on, each, some_of}
use Rattle.nest.specs.Outline.{Outline, Loop, Table, Kind, absent, envelope, implied, rows, inside, groups, Source, of_envelope, of_row, of_repeat, Planned, Plan, Item, segment, loop}

abbrev pub is_there : {A : Type 0} → Option A → Bool
is_there x = on x (λ v. true) false

abbrev pub loop_in : S.Loop → Loop
loop_in l = record { parent = l.parent; children = l.children; occurrences = length l.occurrences; required = is_required l.usage; ends = is_there l.end; controlled = is_there l.control }

abbrev pub table_in : S.Table → Table
table_in t = record { loops = t.loops; repeats = t.segment; parent = t.parent; ancestors = t.ancestors }

abbrev pub kind_in : P.Instances → Kind
kind_in P.absent = absent
kind_in P.enveloped = envelope
kind_in (P.rows_of t) = rows t
kind_in (P.inside t) = inside t
kind_in (P.groups_of t) = groups t
kind_in P.implied = implied

abbrev pub source_in : P.Source → Source
source_in P.from_envelope = of_envelope
source_in (P.from_row t) = of_row t
source_in (P.from_repeat t) = of_repeat t

abbrev pub planned_in : P.SegmentPlan → Planned
planned_in p = record { occurrence = p.occurrence; source = source_in p.source }

abbrev pub plan_in : P.LoopPlan → Plan
plan_in p = record { instances = kind_in p.instances; segments = map planned_in p.segments }

abbrev pub item_in : L.Item → Item
item_in (L.segment_item i) = segment i
item_in (L.loop_item l) = loop l

-- ---- what depends on cells

-- two rows of t have equal cells in each of these columns
unfoldable pub same_in : Job → ℕ → List ℕ → ℕ → ℕ → Bool
same_in j t columns a b = not (some_of (λ c. not (same_cell (cell_of (data_of j t) c a) (cell_of (data_of j t) c b))) columns)

-- the table of a `Groups` loop
abbrev pub group_table : P.Instances → ℕ
group_table P.absent = 0
group_table P.enveloped = 0
group_table (P.rows_of t) = 0
group_table (P.inside t) = 0
group_table (P.groups_of t) = t
group_table P.implied = 0

-- the table of a `Repeat` segment
abbrev pub repeat_table : P.Source → ℕ
repeat_table P.from_envelope = 0
repeat_table (P.from_row t) = 0
repeat_table (P.from_repeat t) = t

-- the columns that planned elements name, `Group` columns aside
abbrev pub column_in : P.Value → List ℕ
column_in (P.from_column c) = c ∷ []
column_in (P.from_group c) = []
column_in (P.from_code code) = []

unfoldable pub columns_in : P.SegmentPlan → List ℕ
columns_in p = each (λ (e : P.ElementPlan). column_in e.value) p.elements

-- two rows may share a repeat segment: their `segment` cells agree, none and null apart, and so do the columns outside the groups
unfoldable pub same_chunk_in : Job → ℕ → P.SegmentPlan → ℕ → ℕ → Bool
same_chunk_in j t p a b = same_answer (segment_cell (data_of j t) a) (segment_cell (data_of j t) b) && same_in j t (columns_in p) a b

-- one of the column cells that a segment plans is not null
unfoldable pub filled_in : Job → ℕ → P.SegmentPlan → ℕ → Bool
filled_in j t p r = some_of (λ c. not (is_null (cell_of (data_of j t) c r))) (columns_in p)

unfoldable pub outline_of : Job → Outline
outline_of j = record {
  loops = map loop_in j.spec.loops;
  roots = j.spec.roots;
  tables = map table_in j.spec.tables;
  plan = map plan_in j.plan;
  order = map (map item_in) j.layout.order;
  row_counts = map (λ (t : TableData). t.rows) j.tables;
  key = λ t r. key_of (data_of j t) r;
  reference = λ t u r. reference_of (data_of j t) u r;
  same_group = λ l a b. same_in j (group_table (plan_of j l).instances) (group_columns_of j l) a b;
  same_chunk = λ l i a b. same_chunk_in j (repeat_table (planned_of j l i).source) (planned_of j l i) a b;
  capacity = λ t. capacity_of j t;
  forced = λ l i. forced_of j l i;
  filled = λ l i t r. filled_in j t (planned_of j l i) r;
}
