use mathlib.Core.Path.{sym, ap, ◌∙◌}
use borrow.Author.Rules.{rules}
use lib.Dec.{eqb}
use lib.ListN.{get_or}
use Rattle.format.specs.Ask as A
use Rattle.format.specs.Sections.{job_of}
use Rattle.nest.specs.Lists.{some_of}
use Rattle.nest.specs.UpTo.{up_to}
use Rattle.nest.proofs.Bridge.{ancestors_is}
use Rattle.nest.proofs.Scan.{some_place}
use Rattle.nest.proofs.keys.names.Goals as goal

pub returns : goal.returns
returns c =
    c.some.ensures (λ i. eqb c.args.u (get_or (A.table_of (job_of c.args.job.at.bytes.now) c.args.d.0).ancestors i 0)) (λ k r h q. search rules)
    ∙ ap (λ m. some_of (λ i. eqb c.args.u (get_or (A.table_of (job_of c.args.job.at.bytes.now) c.args.d.0).ancestors i 0)) (up_to 0 m)) c.ancestor_count-n.ensures
    ∙ some_place (eqb c.args.u) 0 (A.table_of (job_of c.args.job.at.bytes.now) c.args.d.0).ancestors
    ∙ ap (some_of (eqb c.args.u)) (sym (ancestors_is (job_of c.args.job.at.bytes.now) c.args.d.0))
