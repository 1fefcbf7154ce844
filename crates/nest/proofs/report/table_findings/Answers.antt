use Rattle.nest.proofs.Reports.{reported_as}
use Rattle.nest.proofs.FindingLaws.{table_all}
use Rattle.nest.proofs.Bridge.{rows_is}
use Rattle.nest.proofs.Stored.{rows_room_in}
use borrow.Author.Rules.{rules}
use mathlib.Core.Path.{◌≡◌, sym, ◌∙◌}
use Rattle.format.specs.Sections.{job_of}
use Rattle.nest.specs.Outline.{row_count}
use Rattle.nest.specs.OfJob.{outline_of}
use Rattle.nest.specs.NestFindings.{row_findings}
use Rattle.nest.proofs.report.table_findings.Goals as goal

pub invariant_of-all : goal.invariant_of-all
invariant_of-all c = record {
  within = rows_room_in _ _ c.requires.0 _ _ _ c.first_row-base.ensures c.row_count-n.ensures;
}

pub each_below-requires : goal.each_below-requires
each_below-requires c d p k h =
    let rows : c.row_count-n.result ≡ row_count (outline_of (job_of c.args.job.at.bytes.now)) c.args.t.0 = c.row_count-n.ensures ∙ sym (rows_is _ _) in
    search rules

pub returns : goal.returns
returns c = reported_as _ _ (c.row_count-n.ensures ∙ sym (rows_is _ _)) (table_all _ _) (c.each_below.ensures (row_findings (outline_of (job_of c.args.job.at.bytes.now)) c.args.t.0) (λ d d' at k next h q. search rules))
