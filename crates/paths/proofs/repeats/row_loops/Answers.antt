use mathlib.Core.Path.{ap, ◌∙◌}
use borrow.Author.Rules.{rules}
use Rattle.format.specs.Sections.{job_of}
use Rattle.nest.specs.OfJob.{outline_of}
use Rattle.walk.specs.Check.{how_many}
use Rattle.paths.specs.Tests.{row_loops}
use Rattle.paths.proofs.Answers.{rows_at}
use Rattle.paths.proofs.repeats.row_loops.Goals as goal

pub returns : goal.returns
unfolding row_loops
returns c = c.how_many.ensures.counted (rows_at (outline_of (job_of c.args.job.at.bytes.now)) c.args.t.0) (λ k r h q. search rules) ∙ ap (λ m. how_many m (rows_at (outline_of (job_of c.args.job.at.bytes.now)) c.args.t.0)) c.loops.ensures.0
