-- Laws of the definitions of specs/Places, and words that only proofs use.
use Rattle.std.specs.Prelude.{ℕ, List, Option}
use Rattle.format.specs.Plan.{Value, from_column, from_group, from_code, ElementPlan}
use Rattle.format.specs.Job.{Job}
use Rattle.format.specs.Sections.{job_of}
use Rattle.emit.specs.Puts.{put_cell, put_text, Put}
use Rattle.repeat_segment.specs.declared.planned.Planned.{Planned}
use Rattle.repeat_segment.specs.Planned.{id_of}

-- ---- what is put

-- what an element puts at e
abbrev pub put_by : Job → List ℕ → ℕ → ℕ → Option ℕ → ℕ → Value → Put
put_by j id t e c r (from_column n) = put_cell j id e c t n r
put_by j id t e c r (from_group n) = put_cell j id e c t n r
put_by j id t e c r (from_code code) = put_text e c code

unfoldable pub put_at : List ℕ → Planned → ℕ → ℕ → ElementPlan → Put
put_at b s e r x = put_by (job_of b) (id_of b s) s.table.0 e x.component r x.value
