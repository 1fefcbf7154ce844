use mathlib.Core.Path.{ap, ◌∙◌}
use borrow.Author.Rules.{rules}
use lib.ListN.{get_or}
use Rattle.format.specs.Layout.{loop_item}
use Rattle.format.specs.Orders.{order_of}
use Rattle.format.specs.Sections.{job_of}
use Rattle.plan.specs.Answers.{no_item}
use Rattle.walk.specs.Check.{how_many}
use Rattle.paths.specs.Tests.{gives_number, loop_named, same_item}
use Rattle.paths.proofs.Tests.{many_places, loop_once}
use Rattle.paths.proofs.order.loops_seen.Goals as goal

pub returns : goal.returns
returns c = λ k h.
    c.how_often.ensures (λ i. loop_named (get_or (order_of (job_of c.args.job.at.bytes.now) c.args.l.0) i no_item)) (λ i r l q. search rules) k h
    ∙ ap (λ m. how_many m (λ i. gives_number (loop_named (get_or (order_of (job_of c.args.job.at.bytes.now) c.args.l.0) i no_item)) k)) c.order_count-n.ensures
    ∙ many_places (λ x. gives_number (loop_named x) k) no_item (same_item (loop_item k)) (loop_once k) (order_of (job_of c.args.job.at.bytes.now) c.args.l.0)
