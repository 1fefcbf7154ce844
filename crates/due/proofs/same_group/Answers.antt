use mathlib.Core.Path.{sym, ap, ◌∙◌}
use borrow.Author.Rules.{rules}
use lib.ListN.{get_or}
use Rattle.format.specs.Ask as A
use Rattle.format.specs.Sections.{job_of}
use Rattle.nest.specs.Lists.{some_of}
use Rattle.nest.specs.UpTo.{up_to}
use mathlib.Core.Bool.{not}
use Rattle.std.specs.Prelude.{unwrap_or}
use Rattle.spec.specs.declared.ids.TableId.{TableId}
use Rattle.plan.specs.Answers.{instances_of}
use Rattle.nest.proofs.Scan.{some_place}
use Rattle.due.specs.Cells.{differ}
use Rattle.due.proofs.Ways.{group_zero, group_start}
use Rattle.due.proofs.same_group.Goals as goal

pub returns : goal.returns
returns c =
    ap not (
    c.some.ensures (λ k. differ (job_of c.args.job.at.bytes.now) c.unwrap_or-t.result.0 c.args.a.0 c.args.b.0 (get_or (A.group_columns_of (job_of c.args.job.at.bytes.now) c.args.l.0) k 0)) (λ k r h q. search rules)
    ∙ ap (λ m. some_of (λ k. differ (job_of c.args.job.at.bytes.now) c.unwrap_or-t.result.0 c.args.a.0 c.args.b.0 (get_or (A.group_columns_of (job_of c.args.job.at.bytes.now) c.args.l.0) k 0)) (up_to 0 m)) c.group_column_count-n.ensures
    ∙ some_place (differ (job_of c.args.job.at.bytes.now) c.unwrap_or-t.result.0 c.args.a.0 c.args.b.0) 0 (A.group_columns_of (job_of c.args.job.at.bytes.now) c.args.l.0))
    ∙ sym (group_start _ _ _ _ _ _ (ap (λ (t : TableId). t.0) (c.unwrap_or-t.ensures ∙ ap (λ o. unwrap_or o (record { 0 = 0 })) c.group_table.ensures) ∙ group_zero (instances_of c.instances-kind.result)) c.instances-kind.ensures)
