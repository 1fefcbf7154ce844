-- A complete plan: the five conditions on the plan of a job that is not refused (docs/RULES.md, "A complete plan"), each a record below, in
-- that section's order; `CompletePlan` at the end joins them. What nest and the walk look at of a job is its outline (`outline_of`).
use Rattle.std.specs.Prelude.{ℕ, ◌+◌, ◌*◌, ◌≤◌, ◌<◌, max, ◌≡◌, ◌≢◌, ◌⊎◌, true, ltb, List, [], ◌∷◌, length, Option, None, Some}
use Rattle.format.specs.Spec.{Control, Loop, ComponentDef, ElementDef, SegmentDef, Version}
use Rattle.format.specs.Plan.{Source, from_envelope, from_row, from_repeat, Value, from_column, from_group, from_code, ElementPlan, SegmentPlan, LoopPlan}
use Rattle.format.specs.Job.{Job}
use Rattle.format.specs.Ask.{loop_of, plan_of, segment_def, step_of, depth_of, capacity_of}
use Rattle.segment.specs.Grammar.{Without}
use Rattle.segment.specs.Parts.{rank}
use Rattle.nest.specs.Lists.{All, once, on, times}
use Rattle.nest.specs.Outline.{Outline, rows, groups, item_loops, item_segments, kind_of, order_of, table_parent, plain}
use Rattle.nest.specs.Outline as O
use Rattle.nest.specs.OfJob.{outline_of}
use Rattle.walk.specs.Complete.{ExactlyOne, Above, TableAbove, may_stand, GroupEnds, PlansRepeat, Anchors}
use Rattle.emit.specs.Envelope.{field_at, repetition, component}

-- ---- words

-- every two members, in their order
abbrev pub Pairs : {A : Type 0} → (A → A → Type 0) → List A → Type 0
Pairs R [] = Unit {0}
Pairs R (x ∷ xs) = All (R x) xs × Pairs R xs

-- every two members, in any order, each with itself too
abbrev pub Each2 : {A : Type 0} → (A → A → Type 0) → List A → Type 0
Each2 R xs = All (λ x. All (R x) xs) xs

-- what is there is so
abbrev pub IfThere : {A : Type 0} → (A → Type 0) → Option A → Type 0
IfThere P None = Unit {0}
IfThere P (Some x) = P x

-- all segments that a plan has
abbrev pub Segments : (SegmentPlan → Type 0) → Job → Type 0
Segments P j = All (λ (p : LoopPlan). All P p.segments) j.plan

-- ---- 1: row loops

-- docs/RULES.md, "Row loops": each table without repeat segment has exactly one `Rows` loop, its row loop; `Rows` and `Groups` loops name
-- no other tables
pub record RowLoops (o : Outline) : Type 0 where
  pub row_loop : (t : ℕ) → plain o t ≡ true → ExactlyOne (λ l. kind_of o l ≡ rows t)
  pub rows_plain : (l t : ℕ) → kind_of o l ≡ rows t → plain o t ≡ true
  pub groups_plain : (l t : ℕ) → kind_of o l ≡ groups t → plain o t ≡ true

-- ---- 2: entries and orders

-- one entry a loop in the plan and in each outer list of the layout that goes by loops, one a table in the capacities and in data
pub record Entries (j : Job) : Type 0 where
  pub plan : length j.plan ≡ length j.spec.loops
  pub order : length j.layout.order ≡ length j.spec.loops
  pub forced : length j.layout.forced ≡ length j.spec.loops
  pub group_columns : length j.layout.group_columns ≡ length j.spec.loops
  pub depth : length j.layout.depth ≡ length j.spec.loops
  pub capacity : length j.layout.capacity ≡ length j.spec.tables
  pub data_tables : length j.tables ≡ length j.spec.tables

-- docs/RULES.md, "Entries and orders": besides the entries, an order lists each child loop and each planned segment of its loop once and
-- nothing else, the spec has the occurrence that a planned segment names, and a table's parent is a table without repeat segment
pub record EntriesAndOrders (j : Job) : Type 0 where
  pub entries : Entries j
  pub order_loops : (l k : ℕ) → times k (item_loops (order_of (outline_of j) l)) ≡ times k (O.loop_of (outline_of j) l).children
  pub order_segments : (l i : ℕ) → times i (item_segments (order_of (outline_of j) l)) ≡ once (ltb i (length (O.plan_of (outline_of j) l).segments))
  pub occurrences : (l i : ℕ) → i < length (O.plan_of (outline_of j) l).segments
      → (O.segment_of (outline_of j) l i).occurrence < (O.loop_of (outline_of j) l).occurrences
  pub parents_plain : (t u : ℕ) → table_parent (outline_of j) t ≡ Some u → plain (outline_of j) u ≡ true

-- ---- 3: above a row loop

-- docs/RULES.md, "Above a row loop": only `Envelope`, `Implied`, `Rows` and `Groups` loops stand above a row loop; the `Rows` loops among
-- them are the row loops of the table's parent, that one's parent and so on, all of these and no others; and from a `Groups` loop there
-- down to its own table's row loop, which stands on the same path, only `Envelope` and `Implied` loops and `Groups` loops of that table
pub record AboveRowLoop (o : Outline) : Type 0 where
  pub kinds : (l t m : ℕ) → kind_of o l ≡ rows t → Above o m l → may_stand (kind_of o m) ≡ true
  pub only_parents : (l t m u : ℕ) → kind_of o l ≡ rows t → Above o m l → kind_of o m ≡ rows u → TableAbove o u t
  pub all_parents : (l t u : ℕ) → kind_of o l ≡ rows t → TableAbove o u t → (m : ℕ) × (kind_of o m ≡ rows u) × Above o m l
  pub groups_end : (l t g u : ℕ) → kind_of o l ≡ rows t → Above o g l → kind_of o g ≡ groups u → GroupEnds o g u l

-- ---- 4: repeat loops

-- docs/RULES.md, "Repeat loops": a `Rows` loop in a repeat table's list anchors it, so that its rows may hang on that loop's; each such loop
-- plans exactly one repeat segment of the table, and no other repeat segment is planned (the anchors that nest tries are these loops, by the
-- definition `anchors` of nest/specs/Nest)
pub record RepeatLoops (o : Outline) : Type 0 where
  pub planned : (l t : ℕ) → Anchors o l t → ExactlyOne (PlansRepeat o l t)
  pub no_other : (l t i : ℕ) → PlansRepeat o l t i → Anchors o l t

-- ---- 5: places

-- places start at 1

pub record PlanStarts (e : ElementPlan) : Type 0 where
  pub element : 1 ≤ e.element
  pub component : IfThere (λ c. 1 ≤ c) e.component

pub record MapStarts (x : ℕ × ElementDef) : Type 0 where
  pub element : 1 ≤ x.0
  pub components : All (λ (c : ℕ × ComponentDef). 1 ≤ c.0) x.1.components

-- closer and count elements differ
pub record RuleFits (c : Control) : Type 0 where
  pub opener : 1 ≤ c.opener
  pub closer : 1 ≤ c.closer
  pub count : 1 ≤ c.count
  pub differ : c.closer ≢ c.count

-- the places of a planned segment; of a repeat segment those of a full chunk

-- how many rows of a full chunk fill a planned element: each fills a `Group` value, the first any other; a capacity of 0 counts as 1
abbrev pub reach : Job → Source → Value → ℕ
reach j from_envelope v = 1
reach j (from_row t) v = 1
reach j (from_repeat t) (from_column c) = 1
reach j (from_repeat t) (from_group c) = max 1 (capacity_of j t)
reach j (from_repeat t) (from_code code) = 1

-- how far a row's places stand behind those of the row before
abbrev pub step_in : Job → Source → ℕ
step_in j from_envelope = 0
step_in j (from_row t) = 0
step_in j (from_repeat t) = step_of j t

-- the element at which row number k of a chunk stands
abbrev pub element_of : Job → Source → ElementPlan → ℕ → ℕ
element_of j s e k = e.element + k * step_in j s

-- the place of a is in front of that of b: by element, then component, none first
abbrev pub InFront : ElementPlan → ElementPlan → Type 0
InFront a b = (a.element < b.element) ⊎ ((a.element ≡ b.element) × (rank a.component < rank b.component))

-- no place of a is one of b
abbrev pub PlacesApart : Job → Source → ElementPlan → ElementPlan → Type 0
PlacesApart j s a b = (k n : ℕ) → k < reach j s a.value → n < reach j s b.value → element_of j s a k ≡ element_of j s b n → a.component ≢ b.component

-- the places of one planned element differ
abbrev pub OwnApart : Job → Source → ElementPlan → Type 0
OwnApart j s a = (k n : ℕ) → k < reach j s a.value → n < reach j s a.value → element_of j s a k ≡ element_of j s a n → k ≡ n

-- no element has plain parts by a and component parts by b
abbrev pub Unmixed : Job → Source → ElementPlan → ElementPlan → Type 0
Unmixed j s a b = (k n : ℕ) → k < reach j s a.value → n < reach j s b.value → element_of j s a k ≡ element_of j s b n → a.component ≡ None → b.component ≡ None

-- row segments' places rise, a repeat segment's for a full chunk don't collide
abbrev pub Placed : Job → Source → List ElementPlan → Type 0
Placed j from_envelope es = Unit {0}
Placed j (from_row t) es = Pairs InFront es
Placed j (from_repeat t) es = Pairs (PlacesApart j (from_repeat t)) es × All (OwnApart j (from_repeat t)) es

pub record SegmentFits (j : Job) (p : SegmentPlan) : Type 0 where
  pub starts : All PlanStarts p.elements
  pub placed : Placed j p.source p.elements
  pub unmixed : Each2 (Unmixed j p.source) p.elements

-- an envelope field that gives a separator is planned at no component

-- an element of a loop's trigger, with its number: not the control number's, but the component separator's, or the repetition separator's where it has no code
pub record GivesSeparator (j : Job) (l : ℕ) (c : Control) (x : ℕ × ElementDef) : Type 0 where
  pub not_opener : x.0 ≢ c.opener
  pub by_field : (field_at (depth_of j l) x.0 ≡ Some component)
      ⊎ ((field_at (depth_of j l) x.0 ≡ Some repetition) × (x.1.codes ≡ []) × (j.envelope.repetition ≢ None))

-- neither its definition has components nor the segment's own list plans one there
pub record StandsAlone (p : SegmentPlan) (x : ℕ × ElementDef) : Type 0 where
  pub no_components : x.1.components ≡ []
  pub plain : All (λ (e : ElementPlan). e.element ≡ x.0 → e.component ≡ None) p.elements

abbrev pub SeparatorsAlone : Job → Type 0
SeparatorsAlone j = (l : ℕ) → l < length j.plan → (c : Control) → (loop_of j l).control ≡ Some c
    → All (λ (p : SegmentPlan). p.source ≡ from_envelope
    → All (λ x. GivesSeparator j l c x → StandsAlone p x) (on (segment_def j (loop_of j l).trigger) (λ d. d) [])) (plan_of j l).segments

-- codes

-- a text without element, component and segment separator
pub record Clear (j : Job) (text : List ℕ) : Type 0 where
  pub no_element : Without j.envelope.element text
  pub no_component : Without j.envelope.component text
  pub no_segment : Without j.envelope.segment text

abbrev pub CodeClear : Job → Value → Type 0
CodeClear j (from_column c) = Unit {0}
CodeClear j (from_group c) = Unit {0}
CodeClear j (from_code code) = Clear j code

pub record CodesClear (j : Job) : Type 0 where
  pub planned : Segments (λ (p : SegmentPlan). All (λ (e : ElementPlan). CodeClear j e.value) p.elements) j
  pub elements : All (λ (s : List ℕ × SegmentDef). All (λ (x : ℕ × ElementDef). All (Clear j) x.1.codes) s.1) j.spec.segments
  pub components : All (λ (s : List ℕ × SegmentDef). All (λ (x : ℕ × ElementDef). All (λ (c : ℕ × ComponentDef). All (Clear j) c.1.codes) x.1.components) s.1) j.spec.segments
  pub version : IfThere (λ (v : Version). Clear j v.first) j.spec.version

-- docs/RULES.md, "Places": places start at 1, also in the spec's maps and in control rules; those of a row segment rise, those of a repeat
-- segment don't collide in a full chunk; no element has both plain and component parts; an envelope field that gives a separator is planned
-- at no component; closer and count elements differ; and codes and the version's first value hold no element separator, component separator
-- or terminator. Rising is strict; every planned element is a place, a `Group` value in a row segment and the lists of `Envelope` segments, which nothing
-- reads, included; a control rule counts also where its loop has no `end`; the version's element is no place
pub record Places (j : Job) : Type 0 where
  pub segments : Segments (SegmentFits j) j
  pub maps : All (λ (s : List ℕ × SegmentDef). All MapStarts s.1) j.spec.segments
  pub rules : All (λ (l : Loop). IfThere RuleFits l.control) j.spec.loops
  pub separators_alone : SeparatorsAlone j
  pub codes : CodesClear j

-- ---- the five

pub record CompletePlan (j : Job) : Type 0 where
  pub row_loops : RowLoops (outline_of j)
  pub entries_and_orders : EntriesAndOrders j
  pub above_row_loop : AboveRowLoop (outline_of j)
  pub repeat_loops : RepeatLoops (outline_of j)
  pub places : Places j
