-- What the steps of the tour write, one after the other: bytes, segments, findings and stops (write/emit.rs, write/trace.rs;
-- docs/RULES.md, "Segments" and "What a call tells").
-- The state is what a step needs to know of those before it: the highest row of each table, the counter of each loop, and how many trace
-- entries there are, of which those since `begun` belong to the segment that is not finished yet. Entries are counted here as the code
-- counts them, up to 2^63; what `write` promises adds them up (`trace_list` in lossless/specs/Due), which is the same for each job that is
-- not refused (writer/proofs/Entries).
use Rattle.std.specs.Prelude.{ℕ, ◌+◌, ◌-◌, ◌%◌, ◌^◌, max, Bool, List, [], ◌∷◌, ◌++◌, ltb, get_or, set, replicate, Option, None, Some}
use Rattle.format.specs.Spec.{Control, Counted, count_segments, count_children}
use Rattle.format.specs.Job.{Job}
use Rattle.segment.specs.declared.Separators.{Separators}
use Rattle.segment.specs.Parts.{Part, pick, joined, sorted}
use Rattle.nest.specs.Lists.{on}
use Rattle.nest.specs.Outline.{Outline, table_parent, repeated}
use Rattle.nest.specs.Nest.{hook}
use Rattle.nest.specs.Finding.{Finding, out_of_order}
use Rattle.nest.specs.OfJob.{outline_of}
use Rattle.lent.specs.Fit.{more}
use Rattle.walk.specs.Tour.{Step, enters, stop, opener, row_segment, fill, chunk, closer, Stop}
use Rattle.format.specs.Ask.{loop_of, planned_of, identifier_of, step_of}
use Rattle.emit.specs.Puts.{row_put, chunk_put, chunk_puts}
use Rattle.emit.specs.Envelope.{opener_put, closer_put, control_in}

pub record State : Type 0 where
  pub high : List (Option ℕ)  -- a table's highest row entered
  pub counter : List ℕ  -- a loop's next control number
  pub entries : ℕ
  pub begun : ℕ

-- a finished segment: its first trace entry, and its row if it has one
pub record Traced : Type 0 where
  pub entry : ℕ
  pub row : Option (ℕ × ℕ)

pub record Out : Type 0 where
  pub bytes : List ℕ
  pub segments : List Traced
  pub findings : List Finding
  pub stops : List Stop
  pub state : State

abbrev pub quiet : State → Out
quiet s = record { bytes = []; segments = []; findings = []; stops = []; state = s }

abbrev pub and_then : Out → (State → Out) → Out
and_then a f =
    let b = f a.state in
    record { bytes = a.bytes ++ b.bytes; segments = a.segments ++ b.segments; findings = a.findings ++ b.findings; stops = a.stops ++ b.stops; state = b.state }

-- every counter starts at the envelope's control number
abbrev pub start : Job → State
start j = record { high = replicate 16 None; counter = replicate 32 j.envelope.control_number; entries = 0; begun = 0 }

abbrev pub separators_of : Job → Separators
separators_of j = record { element = j.envelope.element; component = j.envelope.component; segment = j.envelope.segment; line_break = j.envelope.line_break }

-- ---- a row is entered

-- the table that a row hangs on: a repeat row's is the one that placed it
unfoldable pub above : Outline → ℕ → ℕ → Option ℕ
above o t r = pick (repeated o t) (on (hook o t r) (λ h. Some h.table) None) (table_parent o t)

-- lower than the highest row yet entered
abbrev pub order_findings : Outline → ℕ → ℕ → Option ℕ → List Finding
order_findings o t r high = on high (λ h. pick (ltb r h) (on (above o t r) (λ u. out_of_order t r u (on (o.reference t u r) (λ v. v) 0) h ∷ []) []) []) []

abbrev pub higher : Option ℕ → ℕ → Option ℕ
higher high r = Some (on high (λ h. max h r) r)

unfoldable pub stop_out : Outline → ℕ → ℕ → ℕ → State → Out
stop_out o l t r s =
    let high = get_or s.high t None in
    record {
      bytes = [];
      segments = [];
      findings = order_findings o t r high;
      stops = record { loop = l; table = t; row = r } ∷ [];
      state = record { high = set s.high t (higher high r); counter = s.counter; entries = s.entries; begun = s.begun };
    }

-- ---- segments

-- a segment with these parts ends here
abbrev pub segment_out : Job → List ℕ → List Part → List Finding → ℕ → Option (ℕ × ℕ) → State → Out
segment_out j id parts findings entries row s =
    record {
      bytes = joined (separators_of j) id parts;
      segments = record { entry = s.begun; row = row } ∷ [];
      findings = findings;
      stops = [];
      state = record { high = s.high; counter = s.counter; entries = more s.entries entries; begun = more s.entries entries };
    }

unfoldable pub row_out : Job → ℕ → ℕ → ℕ → ℕ → State → Out
row_out j l i t r s =
    let p = row_put j (identifier_of j l i) t r (planned_of j l i).elements in
    segment_out j (identifier_of j l i) p.parts p.findings p.entries (Some (t, r)) s

-- row number k of a chunk: findings and entries, the segment comes with its last
unfoldable pub fill_out : Job → ℕ → ℕ → ℕ → ℕ → ℕ → State → Out
fill_out j l i t k r s =
    let p = chunk_put j (identifier_of j l i) t (step_of j t) k r (planned_of j l i).elements in
    record {
      bytes = [];
      segments = [];
      findings = p.findings;
      stops = [];
      state = record { high = s.high; counter = s.counter; entries = more s.entries p.entries; begun = s.begun };
    }

abbrev pub first_row : ℕ → List ℕ → Option (ℕ × ℕ)
first_row t [] = None
first_row t (r ∷ rs) = Some (t, r)

unfoldable pub chunk_out : Job → ℕ → ℕ → ℕ → List ℕ → State → Out
chunk_out j l i t rs s =
    let p = chunk_puts j (identifier_of j l i) t (step_of j t) 0 (planned_of j l i).elements rs in
    segment_out j (identifier_of j l i) (sorted p.parts) [] 0 (first_row t rs) s

-- an opener takes its loop's next number; after the highest comes 0
abbrev pub next : ℕ → ℕ
next n = (n + 1) % 2 ^ 64

abbrev pub counter_up : ℕ → State → State
counter_up l s = record { high = s.high; counter = set s.counter l (next (get_or s.counter l 0)); entries = s.entries; begun = s.begun }

unfoldable pub opener_out : Job → ℕ → State → Out
opener_out j l s = on (loop_of j l).control (λ c.
    let p = opener_put j l c (get_or s.counter l 0) in
    segment_out j (loop_of j l).trigger p.parts p.findings p.entries None (counter_up l s)) (quiet s)

-- the number that the last opener took, where n is its loop's next: `next` of it is n
abbrev pub previous : ℕ → ℕ
previous n = (n + (2 ^ 64 - 1)) % 2 ^ 64

abbrev pub taken : ℕ → State → ℕ
taken l s = previous (get_or s.counter l 0)

abbrev pub count_of : Counted → ℕ → ℕ → ℕ
count_of count_segments children segments = segments
count_of count_children children segments = children

-- the closer repeats the control number of its instance, and is empty there where no opener was written
unfoldable pub closer_out : Job → ℕ → Bool → ℕ → ℕ → State → Out
closer_out j l opened children segments s = on (loop_of j l).control (λ (c : Control). on (loop_of j l).end (λ id.
    let p = closer_put c (pick opened (control_in j l c (taken l s)) []) (count_of c.counted children segments) in
    segment_out j id p.parts p.findings p.entries None s) (quiet s)) (quiet s)

-- ---- the fold

unfoldable pub step_out : Job → Step → State → Out
step_out j (enters l) s = quiet s
step_out j (stop l t r) s = stop_out (outline_of j) l t r s
step_out j (opener l) s = opener_out j l s
step_out j (row_segment l i t r) s = row_out j l i t r s
step_out j (fill l i t k r) s = fill_out j l i t k r s
step_out j (chunk l i t rs) s = chunk_out j l i t rs s
step_out j (closer l opened children count) s = closer_out j l opened children count s

unfoldable pub steps_out : Job → List Step → State → Out
steps_out j [] s = quiet s
steps_out j (x ∷ xs) s = and_then (step_out j x s) (steps_out j xs)
