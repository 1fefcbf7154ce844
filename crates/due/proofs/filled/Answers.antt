use borrow.Author.Rules.{rules}
use mathlib.Core.Path.{sym, ◌∙◌}
use Rattle.format.specs.Sections.{job_of}
use Rattle.due.specs.Cells.{has_value}
use Rattle.due.proofs.Ways.{filled_columns}
use Rattle.due.proofs.filled.Goals as goal

pub returns : goal.returns
returns c = c.some_column.ensures (has_value (job_of c.args.job.at.bytes.now) c.args.t.0 c.args.r.0) (λ k x h q. search rules) ∙ sym (filled_columns _ _ _ _ _)
