use lib.ListN.{get_or}
use Rattle.repeat_segment.proofs.HighLaws.{rows_start, rows_next}
use Rattle.plan.specs.Answers.{element_of}
use mathlib.Core.Path.{refl, ◌∙◌}
use native.Mathlib.Omega.{arith}
use borrow.Author.Rules.{rules}
use Rattle.repeat_segment.proofs.last.highest_rows.Goals as goal

pub loop-k-init : goal.loop-k-init
loop-k-init c = let a = c.args in let j = a.chunk.job.at.bytes.now in (search rules, c.requires.2, rows_start j a.chunk.segment a.chunk.rows.now a.q (element_of j a.e) a.from)

pub loop-k-preserved : goal.loop-k-preserved
loop-k-preserved c = let a = c.args in let j = a.chunk.job.at.bytes.now in let l = c.loop-k in (omega (arith, l.invariant.0), omega (arith, c.loop-k-test.true), c.max-best.ensures ∙ rows_next j a.chunk.segment a.chunk.rows.now a.q (element_of j a.e) a.from l.k l.best c.highest_at.result (get_or a.chunk.rows.now l.k 0) l.invariant.0 refl l.invariant.2 c.highest_at.ensures)
