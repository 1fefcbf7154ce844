-- The walk as a list of steps (write/emit.rs, `run` and `instance`; docs/RULES.md, "The walk"). A step needs no history: what depends on it, such as
-- control numbers and the highest row of a table, is a fold over the steps.
use Rattle.std.specs.Prelude.{ℕ, zero, suc, ◌-◌, max, Bool, true, false, cond, ◌&&◌, ◌||◌, List, [], ◌∷◌, ◌++◌, length, ltb, Option, None}
use Rattle.std.specs.Option.{option_map}
use Rattle.nest.specs.Lists.{each, some_of, on, sum}
use Rattle.nest.specs.Outline.{Outline, Kind, row_table, Source, of_envelope, of_row, of_repeat, Item, segment, loop, item_loops, loop_of, kind_of, order_of, segment_of, planned, has_occurrence}
use Rattle.nest.specs.Nest.{Row, row_of, repeat_rows}
use Rattle.walk.specs.Instances.{Context, outside, instances}

pub data Step : Type 0 where
  enters : (l : ℕ) → Step  -- an instance of a loop begins
  stop : (l t r : ℕ) → Step  -- loop, table, row: one call of `enter`
  opener : (l : ℕ) → Step  -- the trigger of a loop with `control`
  row_segment : (l i t r : ℕ) → Step  -- loop, planned segment, table, row: the segment is due
  fill : (l i t k r : ℕ) → Step  -- loop, planned segment, table, number in its chunk, row: the row gives the next repeat segment its cells
  chunk : (l i t : ℕ) (rs : List ℕ) → Step  -- loop, planned segment, table, rows: a repeat segment
  closer : (l : ℕ) (opened : Bool) (children count : ℕ) → Step  -- child instances; segments, the closer one of them

-- ---- counts

abbrev pub writes : Step → ℕ
writes (enters l) = 0
writes (stop l t r) = 0
writes (opener l) = 1
writes (row_segment l i t r) = 1
writes (fill l i t k r) = 0
writes (chunk l i t rs) = 1
writes (closer l opened children count) = 1

abbrev pub begins : Step → ℕ
begins (enters l) = 1
begins (stop l t r) = 0
begins (opener l) = 0
begins (row_segment l i t r) = 0
begins (fill l i t k r) = 0
begins (chunk l i t rs) = 0
begins (closer l opened children count) = 0

abbrev pub halts : Step → ℕ
halts (enters l) = 0
halts (stop l t r) = 1
halts (opener l) = 0
halts (row_segment l i t r) = 0
halts (fill l i t k r) = 0
halts (chunk l i t rs) = 0
halts (closer l opened children count) = 0

-- how many segments these steps write, how many instances they enter, how often they stop
unfoldable pub segments_in : List Step → ℕ
segments_in = sum writes

unfoldable pub enters_in : List Step → ℕ
enters_in = sum begins

unfoldable pub stops_in : List Step → ℕ
stops_in = sum halts

-- ---- the lists that a reader of the steps sees

pub record Stop : Type 0 where
  pub loop : ℕ
  pub table : ℕ
  pub row : ℕ

abbrev pub stop_of : Step → List Stop
stop_of (enters l) = []
stop_of (stop l t r) = record { loop = l; table = t; row = r } ∷ []
stop_of (opener l) = []
stop_of (row_segment l i t r) = []
stop_of (fill l i t k r) = []
stop_of (chunk l i t rs) = []
stop_of (closer l opened children count) = []

-- the stops, in the order of the calls
unfoldable pub stop_list : List Step → List Stop
stop_list = each stop_of

-- the steps that write a segment: over the whole walk, those of the due segments, in order (docs/RULES.md, "Due segments")
unfoldable pub due_list : List Step → List Step
due_list = each (λ s. cond (ltb 0 (writes s)) (s ∷ []) [])

-- ---- a `Rows` instance

-- the row that opened it
abbrev pub own_row : Kind → Context → Option Row
own_row k c = on (row_table k) (λ t. option_map (row_of t) (c.row t)) None

-- it stops there
abbrev pub stop_at : ℕ → Option Row → List Step
stop_at l own = on own (λ p. stop l p.table p.row ∷ []) []

-- ---- repeat segments: the rows cut into chunks

-- the chunk so far, its first row, and the room left in it
unfoldable pub chunks : (ℕ → ℕ → Bool) → ℕ → ℕ → List ℕ → ℕ → List ℕ → List (List ℕ)
chunks same room head some-rows left [] = some-rows ∷ []
chunks same room head some-rows left (r ∷ more) =
    cond (ltb 0 left && same head r) (chunks same room head (some-rows ++ (r ∷ [])) (left - 1) more) (some-rows ∷ chunks same room r (r ∷ []) (room - 1) more)

abbrev pub chunks_of : (ℕ → ℕ → Bool) → ℕ → List ℕ → List (List ℕ)
chunks_of same room [] = []
chunks_of same room (r ∷ more) = chunks same room r (r ∷ []) (room - 1) more

-- it stops at each of its rows, and is due whatever they hold
-- each row of a chunk, counted from k, stops and gives its cells
unfoldable pub row_steps : ℕ → ℕ → ℕ → ℕ → List ℕ → List Step
row_steps l i t k [] = []
row_steps l i t k (r ∷ rs) = stop l t r ∷ fill l i t k r ∷ row_steps l i t (suc k) rs

abbrev pub chunk_steps : ℕ → ℕ → ℕ → List ℕ → List Step
chunk_steps l i t rs = row_steps l i t 0 rs ++ (chunk l i t rs ∷ [])

-- the rows that go into the instance opened by row p
unfoldable pub repeat_steps : Outline → ℕ → ℕ → ℕ → ℕ → List Step
repeat_steps j l i t p = each (chunk_steps l i t) (chunks_of (j.same_chunk l i) (max 1 (j.capacity t)) (repeat_rows j t l p))

-- ---- a planned segment

-- a row segment is written if data has the table and it is forced or one of its cells is not null
unfoldable pub due_row : Outline → ℕ → ℕ → ℕ → ℕ → Bool
due_row j l i t r = ltb t (length j.row_counts) && (j.forced l i || j.filled l i t r)

abbrev pub from_source : Outline → ℕ → ℕ → Context → Source → List Step
from_source j l i c of_envelope = cond (loop_of j l).controlled (opener l ∷ []) []
from_source j l i c (of_row t) = on (c.row t) (λ r. cond (has_occurrence j l i && due_row j l i t r) (row_segment l i t r ∷ []) []) []
from_source j l i c (of_repeat t) = cond (has_occurrence j l i) (on (own_row (kind_of j l) c) (λ p. repeat_steps j l i t p.row) []) []

unfoldable pub segment_steps : Outline → ℕ → Context → ℕ → List Step
segment_steps j l c i = cond (ltb i (planned j l)) (from_source j l i c (segment_of j l i).source) []

-- ---- an instance, and all instances of a loop

-- `inner` gives the instances of the loops one level down, `below` their steps
abbrev pub item_steps : (ℕ → Context → List Step) → Outline → ℕ → Context → Item → List Step
item_steps below j l c (segment i) = segment_steps j l c i
item_steps below j l c (loop k) = below k c

unfoldable pub body_steps : (ℕ → Context → List Step) → Outline → ℕ → Context → List Step
body_steps below j l c = stop_at l (own_row (kind_of j l) c) ++ each (item_steps below j l c) (order_of j l)

-- the order names an `Envelope` segment: with `control` an opener is written
abbrev pub is_opener : Source → Bool
is_opener of_envelope = true
is_opener (of_row t) = false
is_opener (of_repeat t) = false

abbrev pub opens_at : Outline → ℕ → Item → Bool
opens_at j l (segment i) = ltb i (planned j l) && is_opener (segment_of j l i).source
opens_at j l (loop k) = false

unfoldable pub opened : Outline → ℕ → Bool
opened j l = some_of (opens_at j l) (order_of j l)

-- how many child instances an instance has
unfoldable pub children : (ℕ → Context → List Context) → Outline → ℕ → Context → ℕ
children inner j l c = sum (λ k. length (inner k c)) (item_loops (order_of j l))

-- a loop with `end` and `control` has a closer, which counts itself
unfoldable pub close_steps : Outline → ℕ → ℕ → List Step → List Step
close_steps j l n body = cond ((loop_of j l).ends && (loop_of j l).controlled) (closer l (opened j l) n (suc (segments_in body)) ∷ []) []

unfoldable pub instance_steps : (ℕ → Context → List Context) → (ℕ → Context → List Step) → Outline → ℕ → Context → List Step
instance_steps inner below j l c = enters l ∷ body_steps below j l c ++ close_steps j l (children inner j l c) (body_steps below j l c)

-- every instance of loop l in context c, h levels deep
unfoldable pub visits : Outline → ℕ → ℕ → Context → List Step
visits j zero l c = []
visits j (suc h) l c = each (instance_steps (instances j h) (visits j h) j l) (instances j (suc h) l c)

-- the whole walk, h levels deep
unfoldable pub tour_to : Outline → ℕ → List Step
tour_to j h = each (λ l. visits j h l outside) j.roots

-- no loop has more loops above it than there are: a greater height changes nothing (proofs/Height)
abbrev pub tour : Outline → List Step
tour j = tour_to j (length j.loops)

-- how many instances the walk enters (refusal 6)
unfoldable pub census : Outline → ℕ
census j = enters_in (tour j)
