-- A sample job and jobs made from it by one change, with the answer of each: the law `format::laws::sample_jobs`, by computation
-- (docs/RULES.md, "Answers").
use Rattle.std.specs.Prelude.{ℕ, ◌≡◌, List, [], ◌∷◌, ◌++◌, true, false, map, replicate, set, Option, None, Some}
use Rattle.format.specs.Spec.{required, situational, count_segments, Control, Loop, kind_an, ComponentDef, ElementDef, Table, Version, Spec}
use Rattle.format.specs.Plan.{rows_of, from_row, from_column, from_code, ElementPlan, Plan}
use Rattle.format.specs.Layout.{Item, segment_item, loop_item, Layout}
use Rattle.format.specs.Envelope.{Envelope}
use Rattle.format.specs.Data.{int64, decimal, binary, Column, TableData, Data}
use Rattle.format.specs.Job.{Job}
use Rattle.format.specs.Sections.{decode, encode}
use Rattle.format.specs.Refusal.{refusal_in, refusal_of}

-- ---- two claims, the second with the key of the first, and three service lines, of which one finds no claim

abbrev pub CLP : List ℕ
CLP = 67 ∷ 76 ∷ 80 ∷ []

abbrev pub SVC : List ℕ
SVC = 83 ∷ 86 ∷ 67 ∷ []

abbrev pub HC : List ℕ
HC = 72 ∷ 67 ∷ []

abbrev pub text : ElementDef
text = record { kind = kind_an; min = Some 1; max = Some 38; components = []; codes = [] }

abbrev pub claims : Loop
claims = record { parent = None; trigger = CLP; occurrences = CLP ∷ []; usage = required; end = None; control = None; children = 1 ∷ [] }

abbrev pub services : Loop
services = record { parent = Some 0; trigger = SVC; occurrences = SVC ∷ []; usage = situational; end = None; control = None; children = [] }

abbrev pub spec : Spec
spec = record {
  loops = claims ∷ services ∷ [];
  roots = 0 ∷ [];
  segments = (CLP, (1, text) ∷ []) ∷ (SVC, (1, text) ∷ (2, text) ∷ []) ∷ [];
  tables = record { loops = 0 ∷ []; segment = false; repeat = None; columns = 1; parent = None; ancestors = [] } ∷ record { loops = 1 ∷ []; segment = false; repeat = None; columns = 1; parent = Some 0; ancestors = 0 ∷ [] } ∷ [];
  version = None;
}

abbrev pub column : ℕ → ℕ → ElementPlan
column e c = record { element = e; component = None; value = from_column c }

abbrev pub code : ℕ → List ℕ → ElementPlan
code e t = record { element = e; component = None; value = from_code t }

abbrev pub plan : Plan
plan =
    record { instances = rows_of 0; segments = record { occurrence = 0; source = from_row 0; elements = column 1 0 ∷ [] } ∷ [] }
    ∷ record { instances = rows_of 1; segments = record { occurrence = 0; source = from_row 1; elements = code 1 HC ∷ column 2 0 ∷ [] } ∷ [] }
    ∷ []

abbrev pub layout : Layout
layout = record { order = (segment_item 0 ∷ loop_item 1 ∷ []) ∷ (segment_item 0 ∷ []) ∷ []; forced = (true ∷ []) ∷ (false ∷ []) ∷ []; group_columns = [] ∷ [] ∷ []; depth = None ∷ None ∷ []; capacity = 1 ∷ 1 ∷ [] }

abbrev pub envelope : Envelope
envelope = record {
  sender_qualifier = 90 ∷ 90 ∷ [];
  sender_id = 83 ∷ [];
  receiver_qualifier = 90 ∷ 90 ∷ [];
  receiver_id = 82 ∷ [];
  application_sender = None;
  application_receiver = None;
  date = 0;
  time = 0;
  usage_indicator = 84 ∷ [];
  control_number = 1;
  element = 42;
  component = 58;
  segment = 126;
  repetition = None;
  line_break = false;
}

abbrev pub ints : List ℕ → ℕ → ℕ → Column
ints xs bits n = record { values = int64 xs 0; validity = bits ∷ []; length = n }

abbrev pub tables : Data
tables =
    record { rows = 2; row = Some (ints (7 ∷ 7 ∷ []) 3 2); segment = None; refs = []; columns = Some (record { values = binary (0 ∷ 2 ∷ 4 ∷ []) (65 ∷ 49 ∷ 66 ∷ 50 ∷ []); validity = 3 ∷ []; length = 2 }) ∷ [] }
    ∷ record { rows = 3; row = None; segment = None; refs = (0, Some (ints (7 ∷ 9 ∷ 7 ∷ []) 7 3)) ∷ []; columns = Some (ints (100 ∷ 200 ∷ 0 ∷ []) 3 3) ∷ [] }
    ∷ []

abbrev pub listing : Job
listing = record { spec = spec; plan = plan; layout = layout; envelope = envelope; tables = tables }

-- the sample in bytes
abbrev pub listing_bytes : List ℕ
listing_bytes =
    2 ∷ 0 ∷ 0 ∷ 0 ∷ 0 ∷ 3 ∷ 0 ∷ 0 ∷ 0 ∷ 67 ∷ 76 ∷ 80 ∷ 1 ∷ 0 ∷ 0 ∷ 0 ∷ 3 ∷ 0 ∷ 0 ∷ 0 ∷ 67 ∷ 76 ∷ 80 ∷ 0 ∷ 0 ∷ 0 ∷ 1 ∷ 0 ∷ 0 ∷ 0 ∷ 1 ∷ 0 ∷ 0 ∷ 0 ∷ 1 ∷ 0 ∷ 0 ∷ 0 ∷ 0 ∷ 3 ∷
    0 ∷ 0 ∷ 0 ∷ 83 ∷ 86 ∷ 67 ∷ 1 ∷ 0 ∷ 0 ∷ 0 ∷ 3 ∷ 0 ∷ 0 ∷ 0 ∷ 83 ∷ 86 ∷ 67 ∷ 1 ∷ 0 ∷ 0 ∷ 0 ∷ 0 ∷ 0 ∷ 0 ∷ 1 ∷ 0 ∷ 0 ∷ 0 ∷ 0 ∷ 0 ∷ 0 ∷ 0 ∷ 2 ∷ 0 ∷ 0 ∷ 0 ∷ 3 ∷ 0 ∷ 0 ∷ 0 ∷
    67 ∷ 76 ∷ 80 ∷ 1 ∷ 0 ∷ 0 ∷ 0 ∷ 1 ∷ 0 ∷ 0 ∷ 0 ∷ 0 ∷ 1 ∷ 1 ∷ 0 ∷ 0 ∷ 0 ∷ 1 ∷ 38 ∷ 0 ∷ 0 ∷ 0 ∷ 0 ∷ 0 ∷ 0 ∷ 0 ∷ 0 ∷ 0 ∷ 0 ∷ 0 ∷ 3 ∷ 0 ∷ 0 ∷ 0 ∷ 83 ∷ 86 ∷ 67 ∷ 2 ∷ 0 ∷ 0 ∷
    0 ∷ 1 ∷ 0 ∷ 0 ∷ 0 ∷ 0 ∷ 1 ∷ 1 ∷ 0 ∷ 0 ∷ 0 ∷ 1 ∷ 38 ∷ 0 ∷ 0 ∷ 0 ∷ 0 ∷ 0 ∷ 0 ∷ 0 ∷ 0 ∷ 0 ∷ 0 ∷ 0 ∷ 2 ∷ 0 ∷ 0 ∷ 0 ∷ 0 ∷ 1 ∷ 1 ∷ 0 ∷ 0 ∷ 0 ∷ 1 ∷ 38 ∷ 0 ∷ 0 ∷ 0 ∷ 0 ∷ 0 ∷
    0 ∷ 0 ∷ 0 ∷ 0 ∷ 0 ∷ 0 ∷ 2 ∷ 0 ∷ 0 ∷ 0 ∷ 1 ∷ 0 ∷ 0 ∷ 0 ∷ 0 ∷ 0 ∷ 0 ∷ 0 ∷ 0 ∷ 0 ∷ 1 ∷ 0 ∷ 0 ∷ 0 ∷ 0 ∷ 0 ∷ 0 ∷ 0 ∷ 0 ∷ 1 ∷ 0 ∷ 0 ∷ 0 ∷ 1 ∷ 0 ∷ 0 ∷ 0 ∷ 0 ∷ 0 ∷ 1 ∷ 0 ∷
    0 ∷ 0 ∷ 1 ∷ 0 ∷ 0 ∷ 0 ∷ 0 ∷ 1 ∷ 0 ∷ 0 ∷ 0 ∷ 0 ∷ 0 ∷ 0 ∷ 0 ∷ 0 ∷ 2 ∷ 0 ∷ 0 ∷ 0 ∷ 2 ∷ 0 ∷ 0 ∷ 0 ∷ 0 ∷ 1 ∷ 0 ∷ 0 ∷ 0 ∷ 0 ∷ 0 ∷ 0 ∷ 0 ∷ 1 ∷ 0 ∷ 0 ∷ 0 ∷ 0 ∷ 1 ∷ 0 ∷ 0 ∷
    0 ∷ 1 ∷ 0 ∷ 0 ∷ 0 ∷ 0 ∷ 0 ∷ 0 ∷ 0 ∷ 0 ∷ 0 ∷ 2 ∷ 1 ∷ 0 ∷ 0 ∷ 0 ∷ 1 ∷ 0 ∷ 0 ∷ 0 ∷ 0 ∷ 0 ∷ 0 ∷ 0 ∷ 1 ∷ 1 ∷ 0 ∷ 0 ∷ 0 ∷ 2 ∷ 0 ∷ 0 ∷ 0 ∷ 1 ∷ 0 ∷ 0 ∷ 0 ∷ 0 ∷ 2 ∷ 2 ∷ 0 ∷
    0 ∷ 0 ∷ 72 ∷ 67 ∷ 2 ∷ 0 ∷ 0 ∷ 0 ∷ 0 ∷ 0 ∷ 0 ∷ 0 ∷ 0 ∷ 0 ∷ 2 ∷ 0 ∷ 0 ∷ 0 ∷ 2 ∷ 0 ∷ 0 ∷ 0 ∷ 0 ∷ 0 ∷ 0 ∷ 0 ∷ 0 ∷ 1 ∷ 1 ∷ 0 ∷ 0 ∷ 0 ∷ 1 ∷ 0 ∷ 0 ∷ 0 ∷ 0 ∷ 0 ∷ 0 ∷ 0 ∷ 0 ∷
    2 ∷ 0 ∷ 0 ∷ 0 ∷ 1 ∷ 0 ∷ 0 ∷ 0 ∷ 1 ∷ 1 ∷ 0 ∷ 0 ∷ 0 ∷ 0 ∷ 2 ∷ 0 ∷ 0 ∷ 0 ∷ 0 ∷ 0 ∷ 0 ∷ 0 ∷ 0 ∷ 0 ∷ 0 ∷ 0 ∷ 2 ∷ 0 ∷ 0 ∷ 0 ∷ 0 ∷ 0 ∷ 2 ∷ 0 ∷ 0 ∷ 0 ∷ 1 ∷ 0 ∷ 0 ∷ 0 ∷ 1 ∷
    0 ∷ 0 ∷ 0 ∷ 2 ∷ 0 ∷ 0 ∷ 0 ∷ 90 ∷ 90 ∷ 1 ∷ 0 ∷ 0 ∷ 0 ∷ 83 ∷ 2 ∷ 0 ∷ 0 ∷ 0 ∷ 90 ∷ 90 ∷ 1 ∷ 0 ∷ 0 ∷ 0 ∷ 82 ∷ 0 ∷ 0 ∷ 0 ∷ 0 ∷ 0 ∷ 0 ∷ 0 ∷ 0 ∷ 0 ∷ 0 ∷ 1 ∷ 0 ∷ 0 ∷ 0 ∷ 84 ∷
    1 ∷ 0 ∷ 0 ∷ 0 ∷ 0 ∷ 0 ∷ 0 ∷ 0 ∷ 42 ∷ 58 ∷ 126 ∷ 0 ∷ 0 ∷ 2 ∷ 0 ∷ 0 ∷ 0 ∷ 2 ∷ 0 ∷ 0 ∷ 0 ∷ 1 ∷ 1 ∷ 2 ∷ 0 ∷ 0 ∷ 0 ∷ 7 ∷ 0 ∷ 0 ∷ 0 ∷ 0 ∷ 0 ∷ 0 ∷ 0 ∷ 7 ∷ 0 ∷ 0 ∷ 0 ∷ 0 ∷
    0 ∷ 0 ∷ 0 ∷ 0 ∷ 1 ∷ 0 ∷ 0 ∷ 0 ∷ 3 ∷ 2 ∷ 0 ∷ 0 ∷ 0 ∷ 0 ∷ 0 ∷ 0 ∷ 0 ∷ 0 ∷ 1 ∷ 0 ∷ 0 ∷ 0 ∷ 1 ∷ 0 ∷ 3 ∷ 0 ∷ 0 ∷ 0 ∷ 0 ∷ 0 ∷ 0 ∷ 0 ∷ 2 ∷ 0 ∷ 0 ∷ 0 ∷ 4 ∷ 0 ∷ 0 ∷ 0 ∷ 4 ∷
    0 ∷ 0 ∷ 0 ∷ 65 ∷ 49 ∷ 66 ∷ 50 ∷ 1 ∷ 0 ∷ 0 ∷ 0 ∷ 3 ∷ 2 ∷ 0 ∷ 0 ∷ 0 ∷ 3 ∷ 0 ∷ 0 ∷ 0 ∷ 0 ∷ 0 ∷ 1 ∷ 0 ∷ 0 ∷ 0 ∷ 0 ∷ 0 ∷ 0 ∷ 0 ∷ 1 ∷ 1 ∷ 3 ∷ 0 ∷ 0 ∷ 0 ∷ 7 ∷ 0 ∷ 0 ∷ 0 ∷
    0 ∷ 0 ∷ 0 ∷ 0 ∷ 9 ∷ 0 ∷ 0 ∷ 0 ∷ 0 ∷ 0 ∷ 0 ∷ 0 ∷ 7 ∷ 0 ∷ 0 ∷ 0 ∷ 0 ∷ 0 ∷ 0 ∷ 0 ∷ 0 ∷ 1 ∷ 0 ∷ 0 ∷ 0 ∷ 7 ∷ 3 ∷ 0 ∷ 0 ∷ 0 ∷ 1 ∷ 0 ∷ 0 ∷ 0 ∷ 1 ∷ 1 ∷ 3 ∷ 0 ∷ 0 ∷ 0 ∷ 100 ∷
    0 ∷ 0 ∷ 0 ∷ 0 ∷ 0 ∷ 0 ∷ 0 ∷ 200 ∷ 0 ∷ 0 ∷ 0 ∷ 0 ∷ 0 ∷ 0 ∷ 0 ∷ 0 ∷ 0 ∷ 0 ∷ 0 ∷ 0 ∷ 0 ∷ 0 ∷ 0 ∷ 0 ∷ 1 ∷ 0 ∷ 0 ∷ 0 ∷ 3 ∷ 3 ∷ 0 ∷ 0 ∷ 0 ∷ 0 ∷ 0 ∷ 0 ∷ 0 ∷ 218 ∷ 0 ∷ 0 ∷
    0 ∷ 42 ∷ 1 ∷ 0 ∷ 0 ∷ 113 ∷ 1 ∷ 0 ∷ 0 ∷ 163 ∷ 1 ∷ 0 ∷ 0 ∷ 113 ∷ 2 ∷ 0 ∷ 0 ∷ []

-- ---- the sample with one part changed
abbrev pub with_spec : Spec → Job
with_spec s = record { spec = s; plan = plan; layout = layout; envelope = envelope; tables = tables }

abbrev pub with_loops : List Loop → List ℕ → Job
with_loops ls rs = with_spec (record { loops = ls; roots = rs; segments = spec.segments; tables = spec.tables; version = spec.version })

abbrev pub with_loop : Loop → Job
with_loop l = with_loops (claims ∷ l ∷ []) (0 ∷ [])

abbrev pub with_segment : List ℕ → ℕ → ElementDef → Job
with_segment s n e = with_spec (record { loops = spec.loops; roots = spec.roots; segments = (s, (n, e) ∷ []) ∷ []; tables = spec.tables; version = spec.version })

abbrev pub with_table : Table → Job
with_table t = with_spec (record { loops = spec.loops; roots = spec.roots; segments = spec.segments; tables = t ∷ []; version = spec.version })

abbrev pub with_version : Version → Job
with_version v = with_spec (record { loops = spec.loops; roots = spec.roots; segments = spec.segments; tables = spec.tables; version = Some v })

abbrev pub with_planned : ElementPlan → Job
with_planned e = record { spec = spec; plan = record { instances = rows_of 0; segments = record { occurrence = 0; source = from_row 0; elements = e ∷ [] } ∷ [] } ∷ []; layout = layout; envelope = envelope; tables = tables }

abbrev pub with_order : List (List Item) → ℕ → Job
with_order o c = record { spec = spec; plan = plan; layout = record { order = o; forced = []; group_columns = []; depth = []; capacity = c ∷ [] }; envelope = envelope; tables = tables }

abbrev pub with_separators : ℕ → ℕ → ℕ → Option ℕ → List ℕ → Job
with_separators e c t r id = record {
  spec = spec;
  plan = plan;
  layout = layout;
  envelope = record { sender_qualifier = []; sender_id = id; receiver_qualifier = []; receiver_id = []; application_sender = None; application_receiver = None; date = 0; time = 0; usage_indicator = []; control_number = 1; element = e; component = c; segment = t; repetition = r; line_break = false };
  tables = tables;
}

abbrev pub with_data : TableData → Job
with_data t = record { spec = spec; plan = plan; layout = layout; envelope = envelope; tables = t ∷ [] }

abbrev pub loop_of : Option ℕ → List ℕ → Option (List ℕ) → Option Control → List ℕ → Loop
loop_of p t e c ks = record { parent = p; trigger = t; occurrences = SVC ∷ []; usage = situational; end = e; control = c; children = ks }

abbrev pub element_of : Option ℕ → List (ℕ × ComponentDef) → List (List ℕ) → ElementDef
element_of m cs codes = record { kind = kind_an; min = m; max = None; components = cs; codes = codes }

abbrev pub component_of : Option ℕ → List (List ℕ) → ComponentDef
component_of m codes = record { kind = kind_an; min = m; max = None; codes = codes }

abbrev pub table_of : List ℕ → ℕ → ℕ → Table
table_of ls step n = record { loops = ls; segment = true; repeat = Some (record { from = 1; step = step }); columns = n; parent = None; ancestors = [] }

abbrev pub scaled : ℕ → Option Column
scaled s = Some (record { values = decimal [] s; validity = []; length = 0 })

abbrev pub FAR : List ℕ
FAR = 128 ∷ []

-- ---- byte strings and jobs by answer

-- no bytes, a byte too many, and a word of the trailer changed
abbrev pub wrong_trailer : List (List ℕ)
wrong_trailer = [] ∷ (listing_bytes ++ (0 ∷ [])) ∷ set listing_bytes 601 1 ∷ set listing_bytes 610 0 ∷ set listing_bytes 618 3 ∷ set listing_bytes 622 1 ∷ []

-- a mark, a count, a section's start, keys that don't rise
abbrev pub wrong_structure : List (List ℕ)
wrong_structure = set listing_bytes 4 2 ∷ set listing_bytes 0 3 ∷ set listing_bytes 605 217 ∷ encode (with_segment CLP 1 (element_of None ((2, component_of None []) ∷ (2, component_of None []) ∷ []) [])) ∷ []

-- one past a limit: elements, components, min, step, capacity, the spec's columns, rows
abbrev pub past_limits : List Job
past_limits =
    with_loop (loop_of (Some 0) SVC None (Some (record { opener = 1; closer = 256; count = 1; counted = count_segments })) [])
    ∷ with_segment CLP 256 text
    ∷ with_segment CLP 1 (element_of (Some 256) [] [])
    ∷ with_segment CLP 1 (element_of None ((256, component_of None []) ∷ []) [])
    ∷ with_segment CLP 1 (element_of None ((1, component_of (Some 256) []) ∷ []) [])
    ∷ with_table (table_of [] 256 1)
    ∷ with_table (table_of [] 1 33)
    ∷ with_version (record { segment = CLP; element = 256; first = [] })
    ∷ with_planned (column 256 0)
    ∷ with_planned (record { element = 1; component = Some 256; value = from_column 0 })
    ∷ with_order [] 256
    ∷ with_data (record { rows = 4097; row = None; segment = None; refs = []; columns = [] })
    ∷ []

-- numbers out of range; parents and children that disagree; a child twice; a ring; roots; orders
abbrev pub wrong_loops : List Job
wrong_loops =
    with_loop (loop_of (Some 2) SVC None None [])
    ∷ with_loop (loop_of (Some 0) SVC None None (2 ∷ []))
    ∷ with_loops spec.loops (0 ∷ 2 ∷ [])
    ∷ with_table (table_of (2 ∷ []) 1 1)
    ∷ with_loop (loop_of None SVC None None [])
    ∷ with_loop (loop_of (Some 1) SVC None None [])
    ∷ with_loops (loop_of None CLP None None [] ∷ services ∷ []) (0 ∷ [])
    ∷ with_loops (loop_of None CLP None None (1 ∷ 1 ∷ []) ∷ services ∷ []) (0 ∷ [])
    ∷ with_loops (loop_of (Some 1) CLP None None (1 ∷ []) ∷ loop_of (Some 0) SVC None None (0 ∷ []) ∷ []) []
    ∷ with_loops spec.loops []
    ∷ with_loops spec.loops (0 ∷ 0 ∷ [])
    ∷ with_loops spec.loops (0 ∷ 1 ∷ [])
    ∷ with_order ([] ∷ (loop_item 0 ∷ []) ∷ []) 1
    ∷ with_order ((loop_item 1 ∷ loop_item 1 ∷ []) ∷ []) 1
    ∷ with_order ([] ∷ [] ∷ (loop_item 1 ∷ []) ∷ []) 1
    ∷ []

-- separators that are equal, a letter or a point; bytes past ASCII; identifiers that aren't any; a scale of 39
abbrev pub wrong_texts : List Job
wrong_texts =
    with_separators 42 42 126 None []
    ∷ with_separators 42 58 126 (Some 126) []
    ∷ with_separators 42 97 126 None []
    ∷ with_separators 42 58 46 None []
    ∷ with_separators 42 58 126 None FAR
    ∷ with_loop (loop_of (Some 0) HC (Some (83 ∷ [])) None [])
    ∷ with_loop (loop_of (Some 0) (83 ∷ 86 ∷ 99 ∷ []) None None [])
    ∷ with_segment (67 ∷ []) 1 text
    ∷ with_segment CLP 1 (element_of None [] (FAR ∷ []))
    ∷ with_segment CLP 1 (element_of None ((1, component_of None (FAR ∷ [])) ∷ []) [])
    ∷ with_version (record { segment = []; element = 1; first = [] })
    ∷ with_version (record { segment = CLP; element = 1; first = FAR })
    ∷ with_data (record { rows = 0; row = scaled 39; segment = None; refs = []; columns = [] })
    ∷ with_data (record { rows = 0; row = None; segment = scaled 39; refs = []; columns = [] })
    ∷ with_data (record { rows = 0; row = None; segment = None; refs = (0, scaled 39) ∷ []; columns = [] })
    ∷ with_data (record { rows = 0; row = None; segment = None; refs = []; columns = None ∷ scaled 39 ∷ [] })
    ∷ []

-- at the limits, and with bytes that may be separators
abbrev pub at_limits : List Job
at_limits =
    with_separators 42 58 10 (Some 200) (127 ∷ [])
    ∷ with_segment CLP 255 (element_of (Some 255) ((255, component_of (Some 255) []) ∷ []) [])
    ∷ with_table (table_of (1 ∷ 1 ∷ []) 255 32)
    ∷ with_order ((loop_item 1 ∷ []) ∷ [] ∷ (segment_item 7 ∷ []) ∷ []) 255
    ∷ with_loop (loop_of (Some 0) HC (Some (53 ∷ 65 ∷ 48 ∷ [])) None [])
    ∷ with_data (record { rows = 4096; row = scaled 38; segment = None; refs = []; columns = [] })
    ∷ []

pub record SampleJobs : Type 0 where
  -- the sample's bytes, both ways
  pub encodes : encode listing ≡ listing_bytes
  pub decodes : decode listing_bytes ≡ Some listing
  -- it is not refused, and neither are jobs at the limits
  pub passes : refusal_of listing_bytes ≡ 0
  pub limits_pass : map refusal_in at_limits ≡ replicate 6 0
  -- the others get the answer of their fault
  pub answer_1 : map refusal_of wrong_trailer ≡ replicate 6 1
  pub answer_2 : map refusal_of wrong_structure ≡ replicate 4 2
  pub answer_3 : map refusal_in past_limits ≡ replicate 12 3
  pub answer_4 : map refusal_in wrong_loops ≡ replicate 15 4
  pub answer_5 : map refusal_in wrong_texts ≡ replicate 16 5
