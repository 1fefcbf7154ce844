use Rattle.nest.proofs.Reports.{reported_as}
use Rattle.nest.proofs.FindingLaws.{duplicates_all}
use Rattle.nest.proofs.Bridge.{rows_is}
use borrow.Author.Rules.{rules}
use mathlib.Core.Path.{sym, ◌∙◌}
use Rattle.format.specs.Sections.{job_of}
use Rattle.nest.specs.OfJob.{outline_of}
use Rattle.nest.specs.NestFindings.{duplicate_at}
use Rattle.nest.proofs.duplicates.table_duplicates.Goals as goal

pub returns : goal.returns
returns c = reported_as _ _ (c.row_count-n.ensures ∙ sym (rows_is _ _)) (duplicates_all _ _) (c.each_below.ensures (duplicate_at (outline_of (job_of c.args.job.at.bytes.now)) c.args.t.0) (λ d d' at k next h q. search rules))
