use mathlib.Core.Path.{ap, ◌∙◌}
use borrow.Author.Rules.{rules}
use lib.ListN.{get_or}
use Rattle.format.specs.Ask.{table_of}
use Rattle.format.specs.Sections.{job_of}
use Rattle.nest.specs.OfJob.{outline_of}
use Rattle.walk.specs.Check.{each_below}
use Rattle.paths.specs.Tests.{planned_once}
use Rattle.paths.proofs.Tests.{each_place}
use Rattle.paths.proofs.Bridge.{table_loop_small}
use Rattle.paths.proofs.Answers.{planned_of_lem}
use Rattle.paths.proofs.repeats.all_planned.Goals as goal

pub returns : goal.returns
returns c = planned_of_lem _ _ _ (
    c.each.ensures (λ i. planned_once (outline_of (job_of c.args.job.at.bytes.now)) c.args.t.0 (get_or (table_of (job_of c.args.job.at.bytes.now) c.args.t.0).loops i 0)) (λ k r h q. search rules)
    ∙ ap (λ m. each_below m (λ i. planned_once (outline_of (job_of c.args.job.at.bytes.now)) c.args.t.0 (get_or (table_of (job_of c.args.job.at.bytes.now) c.args.t.0).loops i 0))) c.table_loop_count-n.ensures
    ∙ each_place (planned_once (outline_of (job_of c.args.job.at.bytes.now)) c.args.t.0) 0 (table_of (job_of c.args.job.at.bytes.now) c.args.t.0).loops)

pub each-requires : goal.each-requires
each-requires c = search (rules, table_loop_small _ c.args.job.ready.passed)
