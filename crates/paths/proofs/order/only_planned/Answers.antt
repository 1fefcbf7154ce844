use mathlib.Core.Path.{ap, ◌∙◌}
use borrow.Author.Rules.{rules}
use lib.ListN.{get_or}
use Rattle.format.specs.Orders.{order_of}
use Rattle.format.specs.Sections.{job_of}
use Rattle.plan.specs.Answers.{no_item}
use Rattle.walk.specs.Check.{each_below}
use Rattle.paths.specs.Tests.{segment_below}
use Rattle.paths.proofs.Tests.{each_place}
use Rattle.paths.proofs.Answers.{only_in}
use Rattle.paths.proofs.order.only_planned.Goals as goal

pub returns : goal.returns
returns c =
    c.each.ensures (λ i. segment_below c.planned_count-most.result (get_or (order_of (job_of c.args.job.at.bytes.now) c.args.l.0) i no_item)) (λ k r h q. search rules)
    ∙ ap (λ m. each_below m (λ i. segment_below c.planned_count-most.result (get_or (order_of (job_of c.args.job.at.bytes.now) c.args.l.0) i no_item))) c.order_count-n.ensures
    ∙ each_place (segment_below c.planned_count-most.result) no_item (order_of (job_of c.args.job.at.bytes.now) c.args.l.0)
    ∙ only_in _ _ _ c.planned_count-most.ensures
