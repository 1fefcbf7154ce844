use mathlib.Core.Path.{sym, ap, ◌∙◌}
use borrow.Author.Rules.{rules}
use lib.Dec.{eqb}
use Rattle.format.specs.Sections.{job_of}
use Rattle.nest.specs.Lists.{some_of}
use Rattle.nest.specs.UpTo.{up_to}
use Rattle.nest.specs.Outline.{table_of}
use Rattle.nest.specs.OfJob.{outline_of}
use Rattle.nest.proofs.Bridge.{table_count_is}
use Rattle.nest.proofs.NestLaws.{keys_by}
use Rattle.nest.proofs.keys.has_keys.Goals as goal

pub returns : goal.returns
returns c =
    c.some.ensures (λ i. some_of (eqb c.args.u.0) (table_of (outline_of (job_of c.args.job.at.bytes.now)) i).ancestors) (λ k r h q. search rules)
    ∙ ap (λ m. some_of (λ i. some_of (eqb c.args.u.0) (table_of (outline_of (job_of c.args.job.at.bytes.now)) i).ancestors) (up_to 0 m)) (c.table_count-n.ensures ∙ sym (table_count_is (job_of c.args.job.at.bytes.now)))
    ∙ keys_by (outline_of (job_of c.args.job.at.bytes.now)) c.args.u.0
