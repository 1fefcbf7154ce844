-- Of a job that is not refused nothing is lost (docs/RULES.md, "Nothing is lost"): said of four lists, of what a job comes to as of what a caller of
-- the writer holds. Two of the five fields of `NothingLost`, `reads_back` and `stops_once`, are said of complete plans alone; the other three hold
-- for every job that is not refused.
use Rattle.std.specs.Prelude.{ℕ, ◌<◌, ◌≡◌, ◌⊎◌, false, ◌&&◌, List, ◌++◌, map, length, eqb, Option, None, Some}
use Rattle.format.specs.Job.{Job}
use Rattle.segment.specs.declared.Separators.{Separators}
use Rattle.segment.specs.Grammar.{Segment, All, Reads}
use Rattle.segment.specs.Parts.{Part}
use Rattle.segment.specs.Places.{place, component, Match}
use Rattle.segment.specs.ReadParts.{Due, PlainAt, ComposedAt, ReadAs}
use Rattle.nest.specs.Lists.{once, sum}
use Rattle.nest.specs.Outline.{Outline, row_count}
use Rattle.nest.specs.Nest.{Adrift}
use Rattle.nest.specs.OfJob.{outline_of}
use Rattle.nest.specs.NestFindings.{nest_findings}
use Rattle.walk.specs.Tour.{Stop, stop_list, tour}
use Rattle.walk.specs.Stops.{RowLoop}
use Rattle.emit.specs.Fold.{Out, Traced, start, steps_out, separators_of}
use Rattle.complete.specs.Complete.{CompletePlan}
use Rattle.lossless.specs.Due.{due_segments, dues_of, sources_of, trace_list}
use Rattle.lossless.specs.Separators.{separator_held, delimiter_kind, kinds_of}

-- what the whole walk writes and reports
abbrev pub walked_out : Job → Out
walked_out j = steps_out j (tour (outline_of j)) (start j)

-- the sources in a trace list: table and row, or none
abbrev pub traced_sources : List Traced → List (Option (ℕ × ℕ))
traced_sources = map (λ (x : Traced). x.row)

-- ---- the document

-- the text read at a place: an element, or a component of it
abbrev pub read_at : Separators → Segment → ℕ → Option ℕ → List ℕ
read_at s x p None = place x p
read_at s x p (Some c) = component s x p c

-- every place of a due segment reads as its planned text, and any other as nothing (`ReadAs`); each element is planned plain or with components,
-- so that this decides every place; and each part is read at its own place, none hidden behind another
pub record ReadExactly (s : Separators) (d : Due) (x : Segment) : Type 0 where
  pub planned : ReadAs s d x
  pub one_kind : (p : ℕ) → PlainAt p d.parts ⊎ ComposedAt p d.parts
  pub each_part : All (λ (y : Part). read_at s x y.element y.component ≡ y.text) d.parts

-- a document fits the grammar and has exactly one reading: the due segments in order, none missing and none besides
pub record ReadsDue (j : Job) (document : List ℕ) : Type 0 where
  pub reading : List Segment
  pub reads : Reads (separators_of j) document reading
  pub only : (xs : List Segment) → Reads (separators_of j) document xs → xs ≡ reading
  pub segments : Match (ReadExactly (separators_of j)) (dues_of (due_segments j)) reading

-- ---- the stops

-- how many of them are at row r of table t
abbrev pub stops_at : ℕ → ℕ → List Stop → ℕ
stops_at t r = sum (λ (p : Stop). once (eqb p.table t && eqb p.row r))

-- every row has exactly one, unless it or a row above it lacks its parent, then none; each is at a row that exists, in its loop
pub record StopsOnce (o : Outline) (stops : List Stop) : Type 0 where
  pub one : (t r : ℕ) → t < length o.tables → r < row_count o t → (Adrift o t r → ⊥) → stops_at t r stops ≡ 1
  pub none_else : (t r : ℕ) → t < length o.tables → r < row_count o t → Adrift o t r → stops_at t r stops ≡ 0
  pub each_right : All (λ (p : Stop). (p.table < length o.tables) × (p.row < row_count o p.table) × RowLoop o p.loop p.table p.row) stops

-- ---- the whole

-- of a document, a trace list, the kinds of the findings, and a list of stops
pub record NothingLost (j : Job) (document : List ℕ) (segments : List Traced) (kinds : List ℕ) (stops : List Stop) : Type 0 where
  -- without a delimiter finding the document reads back
  pub reads_back : CompletePlan j → delimiter_kind kinds ≡ false → ReadsDue j document
  -- delimiter findings or not, the trace list has an item for each due segment, in order, with its source
  pub sources : traced_sources segments ≡ sources_of (due_segments j)
  -- and the rows are stopped at as they should
  pub stops_once : CompletePlan j → StopsOnce (outline_of j) stops
  -- the list of stops is the walk's
  pub stop_order : stops ≡ stop_list (tour (outline_of j))
  -- a delimiter is found exactly where a cell or envelope text of a due segment holds a separator
  pub found : delimiter_kind kinds ≡ separator_held j

-- of the document, the findings and the stops that the walk comes to, nest's findings before the walk's, and of the trace list, which is made of
-- the due segments, so that `sources` is plain here and tells something of a caller's list
abbrev pub WalkKept : Job → Type 0
WalkKept j = NothingLost j (walked_out j).bytes (trace_list j) (kinds_of (nest_findings (outline_of j) ++ (walked_out j).findings)) (walked_out j).stops
