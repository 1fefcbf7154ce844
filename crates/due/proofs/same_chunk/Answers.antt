use borrow.Author.Rules.{rules}
use mathlib.Core.Path.{◌≡◌, ap, ◌∙◌}
use Rattle.std.specs.Prelude.{unwrap_or}
use Rattle.format.specs.Sections.{job_of}
use Rattle.spec.specs.declared.ids.TableId.{TableId}
use Rattle.plan.specs.Answers.{source_of}
use Rattle.nest.specs.OfJob.{repeat_table}
use Rattle.due.specs.Cells.{differ}
use Rattle.due.proofs.Ways.{chunk_agrees, chunk_apart, repeat_zero}
use Rattle.due.proofs.same_chunk.Goals as goal
use Rattle.due.proofs.same_chunk.Goals.{After-unwrap_or-t}

table : (c : After-unwrap_or-t) → c.unwrap_or-t.result.0 ≡ repeat_table (source_of c.segment-s.result.source)
table c = ap (λ (t : TableId). t.0) (c.unwrap_or-t.ensures ∙ ap (λ o. unwrap_or o (record { 0 = 0 })) c.repeat_table.ensures) ∙ repeat_zero (source_of c.segment-s.result.source)

pub returns-then-same_segment : goal.returns-then-same_segment
returns-then-same_segment c = chunk_agrees _ _ _ _ _ _ _ _ (table (goal.at.returns-then-same_segment c).After-unwrap_or-t) c.segment-s.ensures.segment.source c.same_segment.ensures _ c.if-same_segment.true
    (c.some_column.ensures (differ (job_of c.args.job.at.bytes.now) c.unwrap_or-t.result.0 c.args.a.0 c.args.b.0) (λ k r h q. search rules))

pub returns : goal.returns
returns c = chunk_apart _ _ _ _ _ _ _ _ (table (goal.at.returns c).After-unwrap_or-t) c.segment-s.ensures.segment.source c.same_segment.ensures c.if-same_segment.false
