use mathlib.Core.Path.{◌≡◌, sym, ap, ◌∙◌}
use borrow.Author.Rules.{rules}
use lib.Dec.{eqb}
use Rattle.format.specs.Ask as A
use Rattle.format.specs.Sections.{job_of}
use Rattle.column.specs.Cell.{key_of}
use Rattle.nest.specs.Lists.{keep, first}
use Rattle.nest.specs.UpTo.{up_to}
use Rattle.nest.specs.Found.{found_by}
use Rattle.nest.specs.OutlineAt.{outline_at}
use Rattle.nest.proofs.Bridge.{rows_is, key_is}
use Rattle.nest.proofs.keys.first_with.Goals as goal

pub returns : goal.returns
returns c =
    c.first_row_where.ensures (λ p. eqb ((outline_at c.args.job.at.bytes.now).key c.args.u.0 p) c.args.v)
    (λ k r h q. let e : r ≡ eqb (key_of (A.data_of (job_of c.args.job.at.bytes.now) c.args.u.0) k) c.args.v = search rules in e ∙ ap (λ m. eqb m c.args.v) (sym (key_is (job_of c.args.job.at.bytes.now) c.args.u.0 k)))
    ∙ ap (λ n. found_by (first (keep (λ p. eqb ((outline_at c.args.job.at.bytes.now).key c.args.u.0 p) c.args.v) (up_to 0 n)))) (c.row_count-n.ensures ∙ sym (rows_is (job_of c.args.job.at.bytes.now) c.args.u.0))
