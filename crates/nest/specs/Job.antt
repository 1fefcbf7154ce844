-- Not to be believed: words of inner contracts, on which no contract of what users call rests.
-- A job as code keeps it: its bytes with their index.
use Rattle.format.specs.Job.{Job}
use Rattle.format.specs.Sections.{job_of}
use Rattle.nest.specs.declared.job.Job.{Job as Kept}
use Rattle.nest.specs.Outline.{Outline}
use Rattle.nest.specs.OutlineAt.{outline_at}

abbrev pub job_by : Kept → Job
job_by j = job_of j.at.bytes.now

abbrev pub outline_by : Kept → Outline
outline_by j = outline_at j.at.bytes.now
