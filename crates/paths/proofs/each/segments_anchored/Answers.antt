use Rattle.paths.specs.Tests.{segment_anchored}
use Rattle.nest.specs.OfJob.{outline_of}
use Rattle.format.specs.Sections.{job_of}
use Rattle.paths.proofs.Answers.{planned_in_lem}
use mathlib.Core.Path.{ap, ◌∙◌}
use borrow.Author.Rules.{rules}
use Rattle.walk.specs.Check.{each_below}
use Rattle.paths.proofs.each.segments_anchored.Goals as goal

pub returns : goal.returns
returns c = c.each_from_last.ensures (segment_anchored (outline_of (job_of c.args.job.at.bytes.now)) c.args.l.0) (λ k r h q. search rules) ∙ ap (λ m. each_below m (segment_anchored (outline_of (job_of c.args.job.at.bytes.now)) c.args.l.0)) (planned_in_lem _ _ _ c.planned_count.ensures)
