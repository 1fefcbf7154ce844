use mathlib.Core.Path.{sym, ap, ◌∙◌}
use borrow.Author.Rules.{rules}
use Rattle.format.specs.Sections.{job_of}
use Rattle.nest.specs.Lists.{some_of}
use Rattle.nest.specs.UpTo.{up_to}
use Rattle.nest.specs.OfJob.{outline_of}
use Rattle.nest.proofs.Bridge.{planned_is}
use Rattle.walk.proofs.DataLaws.{own_all}
use Rattle.due.proofs.Loops.{fills}
use Rattle.due.proofs.own_data.Goals as goal

pub returns : goal.returns
returns c =
    c.some.ensures (fills (job_of c.args.job.at.bytes.now) c.args.l.0 c.args.t.0 c.args.r.0) (λ k x h q. search rules)
    ∙ ap (λ m. some_of (fills (job_of c.args.job.at.bytes.now) c.args.l.0 c.args.t.0 c.args.r.0) (up_to 0 m)) (c.planned_count-n.ensures ∙ sym (planned_is (job_of c.args.job.at.bytes.now) c.args.l.0))
    ∙ sym (own_all (outline_of (job_of c.args.job.at.bytes.now)) c.args.l.0 c.args.t.0 c.args.r.0)
