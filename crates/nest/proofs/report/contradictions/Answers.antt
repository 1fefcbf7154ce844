use Rattle.nest.proofs.Lacking.{against, against_all}
use Rattle.nest.proofs.Reports.{reported_as}
use borrow.Author.Rules.{rules}
use Rattle.format.specs.Sections.{job_of}
use Rattle.nest.proofs.report.contradictions.Goals as goal

pub returns : goal.returns
returns c = reported_as _ _ c.ancestor_count-count.ensures (against_all _ _ _ _ _) (c.each_below.ensures (against (job_of c.args.job.at.bytes.now) c.args.t.0 c.args.r.0 c.args.u.0 c.args.p.0) (λ d d' at k next h q. search rules))
