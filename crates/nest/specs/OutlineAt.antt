-- What nesting and the walk see of the job that some bytes are (docs/RULES.md, "Nesting" and "The walk").
use Rattle.std.specs.Prelude.{ℕ, List}
use Rattle.format.specs.Sections.{job_of}
use Rattle.nest.specs.Outline.{Outline}
use Rattle.nest.specs.OfJob.{outline_of}

abbrev pub outline_at : List ℕ → Outline
outline_at b = outline_of (job_of b)
