use mathlib.Core.Path.{refl, sym, ap, ◌∙◌}
use borrow.Author.Rules.{rules}
use lib.Dec.{eqb}
use lib.ListN.{get_or}
use Rattle.format.specs.Ask.{loop_of}
use Rattle.format.specs.Sections.{job_of}
use Rattle.nest.specs.Lists.{once, times}
use Rattle.nest.proofs.Bridge.{children_is}
use Rattle.walk.specs.Check.{how_many}
use Rattle.paths.proofs.Tests.{many_places}
use Rattle.paths.proofs.order.child_times.Goals as goal

pub returns : goal.returns
returns c =
    c.how_many.ensures.counted (λ i. eqb (get_or (loop_of (job_of c.args.job.at.bytes.now) c.args.l.0).children i 0) c.args.k) (λ k r h q. search rules)
    ∙ ap (λ m. how_many m (λ i. eqb (get_or (loop_of (job_of c.args.job.at.bytes.now) c.args.l.0).children i 0) c.args.k)) c.child_count-n.ensures
    ∙ many_places (λ y. eqb y c.args.k) 0 (λ y. once (eqb y c.args.k)) (λ y. refl) (loop_of (job_of c.args.job.at.bytes.now) c.args.l.0).children
    ∙ sym (ap (times c.args.k) (children_is (job_of c.args.job.at.bytes.now) c.args.l.0))
