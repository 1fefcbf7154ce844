-- Not to be believed: words of inner contracts, on which no contract of what users call rests.
-- A planned segment as code holds it, with what it needs to be written.
use Rattle.std.specs.Prelude.{ℕ, ◌≤◌, ◌<◌, ◌≡◌, List, length, get_or}
use Rattle.format.specs.Plan.{ElementPlan}
use Rattle.format.specs.NoElement.{no_element_plan}
use Rattle.format.specs.Sections.{job_of, layout_start}
use Rattle.format.specs.Ask.{planned_of, identifier_of, step_of}
use Rattle.spec.specs.Answers.{Holds}
use Rattle.plan.specs.Elements.{Elements}
use Rattle.repeat_segment.specs.declared.planned.Planned.{Planned}

-- its planned elements
abbrev pub plans_of : List ℕ → Planned → List ElementPlan
plans_of b s = (planned_of (job_of b) s.l.0 s.i).elements

abbrev pub id_of : List ℕ → Planned → List ℕ
id_of b s = identifier_of (job_of b) s.l.0 s.i

-- what is held is of that job
pub record Of (b : List ℕ) (s : Planned) : Type 0 where
  pub size : length b ≤ 65536
  pub plan_end : layout_start b ≤ length b
  pub elements : Elements b s.first (plans_of b s)
  pub counted : s.count ≡ length (plans_of b s)
  pub id : Holds b s.id (id_of b s)
  pub short : s.id.len ≤ 3
  pub step : s.step ≡ step_of (job_of b) s.table.0
  pub near : s.step ≤ 255
  pub low : (i : ℕ) → i < length (plans_of b s) → (get_or (plans_of b s) i no_element_plan).element ≤ 255
