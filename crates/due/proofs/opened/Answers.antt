use mathlib.Core.Path.{◌≡◌, sym, ap, ◌∙◌}
use borrow.Author.Rules.{rules}
use lib.ListN.{get_or}
use Rattle.format.specs.Ask as A
use Rattle.format.specs.Orders
use Rattle.format.specs.Sections.{job_of}
use Rattle.nest.specs.Lists.{some_of}
use Rattle.nest.specs.UpTo.{up_to}
use Rattle.nest.specs.OfJob.{outline_of, item_in}
use Rattle.nest.specs.Outline.{order_of}
use Rattle.plan.specs.Answers.{no_item}
use Rattle.nest.proofs.Bridge.{order_length, order_item}
use Rattle.nest.proofs.Scan.{some_place}
use Rattle.walk.specs.Tour.{opens_at}
use Rattle.walk.proofs.TourLaws as T
use Rattle.due.proofs.opened.Goals as goal

pub returns : goal.returns
returns c =
    c.some.ensures (λ k. opens_at (outline_of (job_of c.args.job.at.bytes.now)) c.args.l.0 (get_or (order_of (outline_of (job_of c.args.job.at.bytes.now)) c.args.l.0) k T.no_item))
    (λ k r h q. let e : r ≡ opens_at (outline_of (job_of c.args.job.at.bytes.now)) c.args.l.0 (item_in (get_or (Orders.order_of (job_of c.args.job.at.bytes.now) c.args.l.0) k no_item)) = search rules in e ∙ ap (opens_at (outline_of (job_of c.args.job.at.bytes.now)) c.args.l.0) (sym (order_item (job_of c.args.job.at.bytes.now) c.args.l.0 k)))
    ∙ ap (λ m. some_of (λ k. opens_at (outline_of (job_of c.args.job.at.bytes.now)) c.args.l.0 (get_or (order_of (outline_of (job_of c.args.job.at.bytes.now)) c.args.l.0) k T.no_item)) (up_to 0 m)) (c.order_count-n.ensures ∙ sym (order_length (job_of c.args.job.at.bytes.now) c.args.l.0))
    ∙ some_place (opens_at (outline_of (job_of c.args.job.at.bytes.now)) c.args.l.0) T.no_item (order_of (outline_of (job_of c.args.job.at.bytes.now)) c.args.l.0)
    ∙ sym (T.opens_all (outline_of (job_of c.args.job.at.bytes.now)) c.args.l.0)
