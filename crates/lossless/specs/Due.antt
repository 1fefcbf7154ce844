-- A job's due segments (docs/RULES.md, "Due segments"), which the definitions of nest, walk and skipping give, in order, from the job alone: for each
-- step of the walk that writes, the identifier, the parts, the source, and the texts of its cells and envelope fields. The one thing that a step needs
-- to know of those before it is the next control number of its loop.
use Rattle.std.specs.Prelude.{ℕ, zero, suc, ◌+◌, ◌*◌, Bool, List, [], ◌∷◌, ◌++◌, map, get_or, set, replicate, Option, None, Some}
use Rattle.format.specs.Spec.{ElementDef}
use Rattle.format.specs.Plan.{Value, from_column, from_group, from_code, ElementPlan}
use Rattle.format.specs.Job.{Job}
use Rattle.format.specs.Ask.{loop_of, planned_of, identifier_of, step_of, segment_def, depth_of, data_of, max_of}
use Rattle.column.specs.Cell.{cell_of}
use Rattle.segment.specs.Parts.{Part, pick, sorted}
use Rattle.segment.specs.ReadParts.{Due}
use Rattle.nest.specs.Lists.{on, each}
use Rattle.nest.specs.OfJob.{outline_of}
use Rattle.walk.specs.Tour.{Step, enters, stop, opener, row_segment, fill, chunk, closer, tour}
use Rattle.emit.specs.Puts.{cell_text, row_put, chunk_puts}
use Rattle.emit.specs.Envelope.{Sourced, source_at, padded_to, opener_put, closer_put, control_in}
use Rattle.emit.specs.Fold.{Traced, first_row, next, previous, count_of}

pub record DueSegment : Type 0 where
  pub due : Due  -- identifier and parts
  pub tried : List (List ℕ)  -- its cell and envelope texts, those of codes and closers aside
  pub source : Option (ℕ × ℕ)  -- the table and row that it comes from, of a repeat segment the first of its rows; none: the envelope
  pub entries : ℕ  -- how many trace entries it has: one for each cell, one for each envelope field and one for a closer's control number

abbrev pub due_with : List ℕ → List Part → List (List ℕ) → Option (ℕ × ℕ) → ℕ → DueSegment
due_with id parts tried source entries = record { due = record { id = id; parts = parts }; tried = tried; source = source; entries = entries }

-- ---- cell texts

-- the text of a cell at element e, component c; of an absent column too
abbrev pub text_of_cell : Job → List ℕ → ℕ → Option ℕ → ℕ → ℕ → ℕ → List ℕ
text_of_cell j id e c t column r = (cell_text (cell_of (data_of j t) column r) (max_of j id e c)).text

abbrev pub row_cell : Job → List ℕ → ℕ → ℕ → ElementPlan → Value → List (List ℕ)
row_cell j id t r p (from_column c) = text_of_cell j id p.element p.component t c r ∷ []
row_cell j id t r p (from_group c) = []
row_cell j id t r p (from_code code) = []

abbrev pub row_cells : Job → List ℕ → ℕ → ℕ → List ElementPlan → List (List ℕ)
row_cells j id t r = each (λ (p : ElementPlan). row_cell j id t r p p.value)

-- row number k of a chunk: columns are the first row's
abbrev pub chunk_cell : Job → List ℕ → ℕ → ℕ → ℕ → ℕ → ElementPlan → Value → List (List ℕ)
chunk_cell j id t step zero r p (from_column c) = text_of_cell j id p.element p.component t c r ∷ []
chunk_cell j id t step (suc k) r p (from_column c) = []
chunk_cell j id t step k r p (from_group c) = text_of_cell j id (p.element + k * step) p.component t c r ∷ []
chunk_cell j id t step k r p (from_code code) = []

abbrev pub chunk_row : Job → List ℕ → ℕ → ℕ → ℕ → ℕ → List ElementPlan → List (List ℕ)
chunk_row j id t step k r = each (λ (p : ElementPlan). chunk_cell j id t step k r p p.value)

abbrev pub chunk_cells : Job → List ℕ → ℕ → ℕ → ℕ → List ElementPlan → List ℕ → List (List ℕ)
chunk_cells j id t step k plans [] = []
chunk_cells j id t step k plans (r ∷ rs) = chunk_row j id t step k r plans ++ chunk_cells j id t step (k + 1) plans rs

-- ---- envelope texts: padded, from a field; a separator that a field gives is not tried

abbrev pub sourced_text : ElementDef → Sourced → List (List ℕ)
sourced_text d s = on s.field (λ f. pick s.given.checked (padded_to d s.given.reason s.given.text ∷ []) []) []

abbrev pub field_texts : Job → List ℕ → ℕ → ℕ → List ℕ → List (ℕ × ElementDef) → List (List ℕ)
field_texts j trigger depth place control = each (λ (x : ℕ × ElementDef). on (source_at j trigger depth place control x.0 x.1) (sourced_text x.1) [])

-- ---- what a step writes; cs are the loops' next control numbers

unfoldable pub opener_due : Job → ℕ → List ℕ → List DueSegment
opener_due j l cs = on (loop_of j l).control (λ c.
    let trigger = (loop_of j l).trigger in
    let number = get_or cs l 0 in
    let p = opener_put j l c number in
    due_with trigger p.parts
    (field_texts j trigger (depth_of j l) c.opener (control_in j l c number) (on (segment_def j trigger) (λ d. d) [])) None p.entries ∷ []) []

unfoldable pub row_due : Job → ℕ → ℕ → ℕ → ℕ → DueSegment
row_due j l i t r =
    let id = identifier_of j l i in
    let es = (planned_of j l i).elements in
    due_with id (row_put j id t r es).parts (row_cells j id t r es) (Some (t, r)) (row_put j id t r es).entries

unfoldable pub chunk_due : Job → ℕ → ℕ → ℕ → List ℕ → DueSegment
chunk_due j l i t rs =
    let id = identifier_of j l i in
    let es = (planned_of j l i).elements in
    let p = chunk_puts j id t (step_of j t) 0 es rs in
    due_with id (sorted p.parts) (chunk_cells j id t (step_of j t) 0 es rs) (first_row t rs) p.entries

-- a closer repeats the number that its opener took
unfoldable pub closer_due : Job → ℕ → Bool → ℕ → ℕ → List ℕ → List DueSegment
closer_due j l opened children count cs = on (loop_of j l).control (λ c. on (loop_of j l).end (λ id.
    let p = closer_put c (pick opened (control_in j l c (previous (get_or cs l 0))) []) (count_of c.counted children count) in
    due_with id p.parts [] None p.entries ∷ []) []) []

unfoldable pub step_due : Job → Step → List ℕ → List DueSegment
step_due j (enters l) cs = []
step_due j (stop l t r) cs = []
step_due j (opener l) cs = opener_due j l cs
step_due j (row_segment l i t r) cs = row_due j l i t r ∷ []
step_due j (fill l i t k r) cs = []
step_due j (chunk l i t rs) cs = chunk_due j l i t rs ∷ []
step_due j (closer l opened children count) cs = closer_due j l opened children count cs

-- an opener takes its loop's next number
unfoldable pub step_counters : Job → Step → List ℕ → List ℕ
step_counters j (enters l) cs = cs
step_counters j (stop l t r) cs = cs
step_counters j (opener l) cs = on (loop_of j l).control (λ c. set cs l (next (get_or cs l 0))) cs
step_counters j (row_segment l i t r) cs = cs
step_counters j (fill l i t k r) cs = cs
step_counters j (chunk l i t rs) cs = cs
step_counters j (closer l opened children count) cs = cs

-- ---- the whole walk

unfoldable pub steps_due : Job → List Step → List ℕ → List DueSegment
steps_due j [] cs = []
steps_due j (x ∷ xs) cs = step_due j x cs ++ steps_due j xs (step_counters j x cs)

-- every counter starts at the envelope's control number
unfoldable pub due_segments : Job → List DueSegment
due_segments j = steps_due j (tour (outline_of j)) (replicate 32 j.envelope.control_number)

-- ---- the trace list

-- each segment's first entry, which is the number of those of all segments before it, and its source; n entries stand before them
unfoldable pub traced_from : ℕ → List DueSegment → List Traced
traced_from n [] = []
traced_from n (d ∷ ds) = record { entry = n; row = d.source } ∷ traced_from (n + d.entries) ds

abbrev pub trace_list : Job → List Traced
trace_list j = traced_from 0 (due_segments j)

-- identifiers and parts alone
abbrev pub dues_of : List DueSegment → List Due
dues_of = map (λ (d : DueSegment). d.due)

-- sources alone
abbrev pub sources_of : List DueSegment → List (Option (ℕ × ℕ))
sources_of = map (λ (d : DueSegment). d.source)
