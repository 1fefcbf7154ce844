use Rattle.nest.proofs.Reports.{reported_as}
use Rattle.nest.proofs.Bridge.{table_count_is}
use borrow.Author.Rules.{rules}
use mathlib.Core.Path.{refl, sym, ◌∙◌}
use Rattle.format.specs.Sections.{job_of}
use Rattle.nest.specs.OfJob.{outline_of}
use Rattle.nest.specs.NestFindings.{table_findings}
use Rattle.nest.proofs.report.all_findings.Goals as goal

pub returns : goal.returns
returns c = reported_as _ _ (c.table_count-count.ensures ∙ sym (table_count_is _)) refl (c.each_below.ensures (table_findings (outline_of (job_of c.args.job.at.bytes.now))) (λ d d' at k next h q. search rules))
