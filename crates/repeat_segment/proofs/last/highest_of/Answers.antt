use Rattle.std.specs.Prelude.{None, Some}
use Rattle.repeat_segment.proofs.HighLaws.{high_whole, high_past, high_one}
use mathlib.Core.List.{[], ◌∷◌}
use lib.ListN.{length}
use Rattle.plan.specs.Answers.{element_of}
use native.Mathlib.Omega.{arith}
use Rattle.repeat_segment.proofs.last.highest_of.Goals as goal

pub returns-then-step-eq0 : goal.returns-then-step-eq0
returns-then-step-eq0 c = let a = c.args in let j = a.chunk.job.at.bytes.now in let n = c.count-count.ensures.0 in rw c.in-Some.is (high_whole j a.chunk.segment a.chunk.rows.now (Some c.in-Some.p) (length a.chunk.rows.now) (element_of j a.e ∷ []) (rw n at c.highest_rows-then-step-eq0.ensures))

pub returns-then-count-k : goal.returns-then-count-k
returns-then-count-k c = let a = c.args in let j = a.chunk.job.at.bytes.now in let n = c.count-count.ensures.0 in rw c.in-Some.is (high_past j a.chunk.segment a.chunk.rows.now c.in-Some.p (element_of j a.e) (length a.chunk.rows.now) c.row_at-k.result a.chunk.few (c.row_at-k.ensures j) (rw n at c.if-count-k.true))

pub returns-in-None : goal.returns-in-None
returns-in-None c = let a = c.args in let j = a.chunk.job.at.bytes.now in let n = c.count-count.ensures.0 in rw c.in-None.is (high_whole j a.chunk.segment a.chunk.rows.now None (length a.chunk.rows.now) (element_of j a.e ∷ []) (rw n at c.highest_rows.ensures))

pub returns-else-count-k : goal.returns-else-count-k
returns-else-count-k c = let a = c.args in let j = a.chunk.job.at.bytes.now in let n = c.count-count.ensures.0 in rw c.in-Some.is (high_one j a.chunk.segment a.chunk.rows.now c.in-Some.p (element_of j a.e) (length a.chunk.rows.now) c.row_at-k.result c.highest_rows-in-Some.result a.chunk.few (omega (arith, c.if-step-eq0.false)) (c.row_at-k.ensures j) (rw n at c.if-count-k.false) c.highest_rows-in-Some.ensures)
