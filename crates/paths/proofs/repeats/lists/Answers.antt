use mathlib.Core.Path.{sym, ap, ◌∙◌}
use borrow.Author.Rules.{rules}
use lib.Dec.{eqb, ltb}
use lib.ListN.{get_or}
use Rattle.format.specs.Ask.{table_of}
use Rattle.format.specs.Sections.{job_of}
use Rattle.nest.specs.Lists.{some_of, times}
use Rattle.nest.specs.UpTo.{up_to}
use Rattle.nest.proofs.Bridge.{loops_is}
use Rattle.nest.proofs.Scan.{some_place}
use Rattle.paths.proofs.Tests.{some_times}
use Rattle.paths.proofs.repeats.lists.Goals as goal

pub returns : goal.returns
returns c =
    c.some.ensures (λ i. eqb (get_or (table_of (job_of c.args.job.at.bytes.now) c.args.t.0).loops i 0) c.args.l.0) (λ k r h q. search rules)
    ∙ ap (λ m. some_of (λ i. eqb (get_or (table_of (job_of c.args.job.at.bytes.now) c.args.t.0).loops i 0) c.args.l.0) (up_to 0 m)) c.table_loop_count-n.ensures
    ∙ some_place (λ y. eqb y c.args.l.0) 0 (table_of (job_of c.args.job.at.bytes.now) c.args.t.0).loops
    ∙ some_times c.args.l.0 (table_of (job_of c.args.job.at.bytes.now) c.args.t.0).loops
    ∙ sym (ap (λ ys. ltb 0 (times c.args.l.0 ys)) (loops_is (job_of c.args.job.at.bytes.now) c.args.t.0))
