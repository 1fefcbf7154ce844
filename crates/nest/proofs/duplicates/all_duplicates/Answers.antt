use Rattle.nest.proofs.Reports.{reported_as}
use Rattle.nest.proofs.Bridge.{data-count-is}
use borrow.Author.Rules.{rules}
use mathlib.Core.Path.{refl, sym, ◌∙◌}
use Rattle.format.specs.Sections.{job_of}
use Rattle.nest.specs.OfJob.{outline_of}
use Rattle.nest.specs.NestFindings.{duplicates}
use Rattle.nest.proofs.duplicates.all_duplicates.Goals as goal

pub returns : goal.returns
returns c = reported_as _ _ (c.data_count-count.ensures ∙ sym (data-count-is _)) refl (c.each_below.ensures (duplicates (outline_of (job_of c.args.job.at.bytes.now))) (λ d d' at k next h q. search rules))
