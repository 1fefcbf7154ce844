use mathlib.Core.Path.{ap, ◌∙◌}
use borrow.Author.Rules.{rules}
use Rattle.format.specs.Sections.{job_of}
use Rattle.nest.specs.OfJob.{outline_of}
use Rattle.walk.specs.Check.{how_many}
use Rattle.paths.specs.Tests.{repeats_in}
use Rattle.paths.proofs.Answers.{repeats_at, planned_in_lem}
use Rattle.paths.proofs.repeats.repeats_in.Goals as goal

pub returns : goal.returns
unfolding repeats_in
returns c = c.how_many.ensures.counted (repeats_at (outline_of (job_of c.args.job.at.bytes.now)) c.args.t.0 c.args.l.0) (λ k r h q. search rules) ∙ ap (λ m. how_many m (repeats_at (outline_of (job_of c.args.job.at.bytes.now)) c.args.t.0 c.args.l.0)) (planned_in_lem _ _ _ c.planned_count-n.ensures)
