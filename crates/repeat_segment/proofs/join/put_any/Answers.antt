use Rattle.repeat_segment.proofs.JoinLaws.{chunk_run, chunk_stuck}
use Rattle.repeat_segment.specs.Chunk.{parts_in}
use Rattle.lent.specs.Fit.{cap}
use lib.ListN.{length}
use Prim.Native.Nat.{◌≤◌}
use native.Mathlib.Omega.{arith}
use mathlib.Core.Path.{sym, ◌∙◌}
use Rattle.repeat_segment.proofs.join.put_any.Goals as goal
use Rattle.repeat_segment.proofs.join.put_any.Goals.{Start}

pub returns-then-zero_free : goal.returns-then-zero_free
returns-then-zero_free c = let a = c.args in let r = a.chunk.rows.now in let h : length a.doc.now ≤ cap = omega (arith, (goal.at.returns-then-zero_free c).Start) in chunk_run a.sep a.chunk.job.at.bytes.now a.chunk.segment c.requires (parts_in a.chunk) h c.highest_in-last.ensures c.begin-pen.ensures (sym (rw c.count.ensures.0 at c.zero_free.ensures r) ∙ c.if-zero_free.true) c.put_positions.ensures

pub returns : goal.returns
returns c = let a = c.args in let r = a.chunk.rows.now in let h : length a.doc.now ≤ cap = omega (arith, (goal.at.returns c).Start) in chunk_stuck a.sep a.chunk.job.at.bytes.now a.chunk.segment c.requires (parts_in a.chunk) h c.highest_in-last.ensures c.begin-pen.ensures (sym (rw c.count.ensures.0 at c.zero_free.ensures r) ∙ c.if-zero_free.false) c.close.ensures
