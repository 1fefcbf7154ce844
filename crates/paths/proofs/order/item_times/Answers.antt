use mathlib.Core.Path.{ap, ◌∙◌}
use borrow.Author.Rules.{rules}
use lib.ListN.{get_or}
use Rattle.format.specs.Orders.{order_of}
use Rattle.format.specs.Sections.{job_of}
use Rattle.plan.specs.Answers.{item_of, no_item}
use Rattle.walk.specs.Check.{how_many}
use Rattle.paths.specs.Tests.{same, same_item}
use Rattle.paths.proofs.Tests.{many_places, same_once}
use Rattle.paths.proofs.order.item_times.Goals as goal

pub returns : goal.returns
returns c =
    c.how_many.ensures.counted (λ i. same (item_of c.args.x) (get_or (order_of (job_of c.args.job.at.bytes.now) c.args.l.0) i no_item)) (λ k r h q. search rules)
    ∙ ap (λ m. how_many m (λ i. same (item_of c.args.x) (get_or (order_of (job_of c.args.job.at.bytes.now) c.args.l.0) i no_item))) c.order_count-n.ensures
    ∙ many_places (same (item_of c.args.x)) no_item (same_item (item_of c.args.x)) (same_once (item_of c.args.x)) (order_of (job_of c.args.job.at.bytes.now) c.args.l.0)
