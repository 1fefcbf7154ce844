-- Not to be believed: words of inner contracts, on which no contract of what users call rests.
-- The parts of a row segment as code goes through them: what its planned elements put from some number on.
use Rattle.std.specs.Prelude.{ℕ, suc, ◌-◌, ◌≤◌, ◌<◌, ◌≡◌, List, length, drop, Some, None, Option}
use Rattle.format.specs.Plan.{ElementPlan}
use Rattle.format.specs.Sections.{job_of}
use Rattle.format.specs.Ask.{planned_of, identifier_of}
use Rattle.texts.specs.Reason.{Outcome, gives}
use Rattle.spec.specs.Answers.{stretch_of, Holds}
use Rattle.plan.specs.Elements.{Elements}
use Rattle.emit.specs.Puts.{Put, cell_outcome, nothing, and_put, put_cell, put_text, row_value, row_put}
use Rattle.row_segment.specs.declared.parts.Line.{Line}
use Rattle.row_segment.specs.declared.parts.Source.{Source}
use Rattle.row_segment.specs.declared.parts.Source.TheVariants.{Cell, Code}
use Rattle.row_segment.specs.declared.parts.Planned.{Planned}
use Rattle.row_segment.specs.declared.parts.Look.{Look}

-- ---- a line in the job b

abbrev pub id_of : List ℕ → Line → List ℕ
id_of b x = identifier_of (job_of b) x.l.0 x.i

abbrev pub plans : List ℕ → Line → List ElementPlan
plans b x = (planned_of (job_of b) x.l.0 x.i).elements

-- the line is of that job
pub record Lined (b : List ℕ) (x : Line) : Type 0 where
  pub low : x.l.0 < 32
  pub count : x.count ≡ length (plans b x)
  pub first : Elements b x.first (plans b x)
  pub id : Holds b x.id (id_of b x)
  pub named : x.id.len ≤ 3

-- ---- what its elements put

abbrev pub element_put : List ℕ → Line → ElementPlan → Put
element_put b x p = row_value (job_of b) (id_of b x) x.t.0 x.r.0 p p.value

-- those from number k on
unfoldable pub puts : List ℕ → Line → ℕ → Put
puts b x k = row_put (job_of b) (id_of b x) x.t.0 x.r.0 (drop k (plans b x))

-- a part by where its text comes from
abbrev pub source_put : List ℕ → Line → ℕ → Option ℕ → Source → Put
source_put b x e c (Cell n) = put_cell (job_of b) (id_of b x) e c x.t.0 n x.r.0
source_put b x e c (Code s) = put_text e c (stretch_of b s)

unfoldable pub part_put : List ℕ → Line → Planned → Put
part_put b x p = source_put b x p.element p.component p.source

-- the text of a part, and the reason why it has none
abbrev pub source_outcome : List ℕ → Line → ℕ → Option ℕ → Source → Outcome
source_outcome b x e c (Cell n) = cell_outcome (job_of b) (id_of b x) x.t.0 x.r.0 e c n
source_outcome b x e c (Code s) = gives (stretch_of b s)

unfoldable pub outcome_of : List ℕ → Line → Planned → Outcome
outcome_of b x p = source_outcome b x p.element p.component p.source

-- ---- looking ahead

-- the planned elements from number k on stand at this place
pub record Stands (b : List ℕ) (x : Line) (k at : ℕ) : Type 0 where
  pub place : Elements b at (drop k (plans b x))
  pub within : k ≤ length (plans b x)

-- what was looked at, and nothing where no part is left
abbrev pub look_put : List ℕ → Line → Option Planned → Put
look_put b x (Some p) = part_put b x p
look_put b x None = nothing

-- that and what is behind it
unfoldable pub ahead : List ℕ → Line → Look → Put
ahead b x n = and_put (look_put b x n.part) (puts b x n.k)

-- a look that tells of the line
pub record Sees (b : List ℕ) (x : Line) (n : Look) : Type 0 where
  pub stands : Stands b x n.k n.at
  pub ended : n.part ≡ None → length (plans b x) ≤ n.k

-- it tells of what stands from number k on
pub record Looks (b : List ℕ) (x : Line) (k : ℕ) (n : Look) : Type 0 where
  pub sees : Sees b x n
  pub whole : ahead b x n ≡ puts b x k
  pub later : (p : Planned) → n.part ≡ Some p → k < n.k

-- how often one can still look on, of `count` planned elements
abbrev pub left_of : ℕ → ℕ → Option Planned → ℕ
left_of count k (Some p) = suc (count - k)
left_of count k None = 0

abbrev pub left : ℕ → Look → ℕ
left count n = left_of count n.k n.part
